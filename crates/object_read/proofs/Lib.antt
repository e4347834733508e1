pub mod FileBytes
pub mod Opening
pub mod Reading
