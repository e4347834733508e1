pub mod Finding
pub mod Later
pub mod Reading
