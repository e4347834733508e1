pub mod Warnings
pub mod Refusals
pub mod Files
pub mod Seen
pub mod Holding
pub mod Making
