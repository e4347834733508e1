pub mod Addresses
pub mod DebugMap
pub mod Origin
pub mod Pass
pub mod Stab
