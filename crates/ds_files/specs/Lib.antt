pub mod Counting
pub mod MemoryFiles
pub mod MemorySink
pub mod Outside
pub mod Reading
