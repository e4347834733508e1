pub mod Found
pub mod Places
pub mod Refused
pub mod Soundness
pub mod Inside
pub mod Trying
