pub mod Holding
pub mod Named
pub mod Next
pub mod Sections
pub mod Order
pub mod Soundness
