pub mod Operations
pub mod Cuts
pub mod SpellingLaws
pub mod Refused
