mod Bases
mod Cutting
mod Each
pub mod Entries
mod Meant
pub mod Refused
