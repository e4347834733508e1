pub mod Ends
pub mod Kept
pub mod Nodes
pub mod Spellable
