pub mod Reading
pub mod Length
pub mod Spelling
pub mod Steps
