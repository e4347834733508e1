pub mod TextEnds
mod ZeroPlaces
pub mod Gathering
pub mod ImageReadBack
pub mod ReadBack
pub mod Refused
pub mod Rows
pub mod Soundness
