pub mod Number
pub mod Padding
pub mod Header
pub mod Archive
pub mod Table
pub mod Spelling
