pub mod Pieces
pub mod Nodes
pub mod Units
pub mod Sourced
pub mod Noted
pub mod Given
