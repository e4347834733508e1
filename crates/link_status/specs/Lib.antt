pub mod Codes
pub mod Names
pub mod StatusText
pub mod Statuses
