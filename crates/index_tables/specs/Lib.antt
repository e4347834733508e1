pub mod Bases
pub mod Tables
