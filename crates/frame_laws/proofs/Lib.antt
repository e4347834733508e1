pub mod Rows
pub mod Framed
pub mod Written
pub mod Taken
pub mod Whole
