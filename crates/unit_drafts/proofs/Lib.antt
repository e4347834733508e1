pub mod Batching
pub mod Counting
pub mod Graphs
pub mod Leaving
pub mod ShapesMade
