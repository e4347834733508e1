pub mod Orders
pub mod Linked
pub mod Held
pub mod Runs
pub mod PartPlaces
mod Kept
