pub mod Opened
pub mod Read
pub mod Seen
pub mod Sound
