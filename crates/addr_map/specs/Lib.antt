pub mod Entries
pub mod Ranges
pub mod Moved
pub mod Sound
pub mod Tables
