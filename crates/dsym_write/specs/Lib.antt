pub mod Bundle
pub mod Pieces
pub mod Plist
