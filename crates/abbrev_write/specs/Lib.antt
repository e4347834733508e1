pub mod Feeding
pub mod Keys
pub mod Table
