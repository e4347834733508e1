pub mod Roots
pub mod Rows
pub mod Values
pub mod Whole
pub mod Images
