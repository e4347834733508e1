pub mod Relocation
pub mod Table
pub mod Sound
pub mod Address
pub mod Parts
pub mod Tried
