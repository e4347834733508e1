pub mod Joins
pub mod Kept
pub mod Named
pub mod Shards
