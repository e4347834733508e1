pub mod Children
pub mod Codes
pub mod FirstUses
pub mod Tables
