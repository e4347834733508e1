pub mod Items
pub mod Given
pub mod Turns
pub mod Soundness
pub mod Wholes
pub mod Refused
pub mod SpellingLaws
