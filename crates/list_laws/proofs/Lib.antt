pub mod Placed
pub mod Pairs
pub mod Behind
pub mod Lists
pub mod Written
pub mod ListsStand
pub mod Whole
