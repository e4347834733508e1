pub mod Naming
pub mod Operations
pub mod Pieces
pub mod Parts
