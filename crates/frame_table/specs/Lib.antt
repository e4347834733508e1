pub mod Entry
pub mod Naming
pub mod Description
pub mod Frames
pub mod Order
pub mod Sharing
