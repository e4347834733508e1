pub mod Copied
pub mod Emitting
pub mod Runs
pub mod Tables
