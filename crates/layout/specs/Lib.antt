pub mod Sections
pub mod Lengths
pub mod Laid
pub mod Pass
