pub mod Spelling
pub mod Again
