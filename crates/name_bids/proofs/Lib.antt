pub mod Bids
pub mod Claiming
pub mod Tables
pub mod Workers
pub mod Reading
pub mod NotedCells
pub mod SeenAhead
