pub mod Filling
pub mod Listing
pub mod ReadBack
pub mod Refused
pub mod Table
