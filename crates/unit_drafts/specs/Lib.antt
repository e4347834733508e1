pub mod Graphs
pub mod Limits
pub mod Shaped
pub mod Shaping
pub mod Drafting
