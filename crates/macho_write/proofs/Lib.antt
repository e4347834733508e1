pub mod Left
pub mod Lengths
pub mod OwnCommands
pub mod Padding
pub mod PlacedSymbols
