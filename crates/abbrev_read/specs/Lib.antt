pub mod Codes
pub mod Reading
pub mod Spelling
pub mod Run
