pub mod Commands
pub mod Symbols
pub mod Spelled
pub mod Sections
pub mod Whole
pub mod WereRead
