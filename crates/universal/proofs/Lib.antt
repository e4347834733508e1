pub mod Refused
pub mod Within
pub mod Pages
pub mod Rooms
pub mod ReadBack
pub mod Worked
