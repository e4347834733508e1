pub mod Answers
pub mod Lines
pub mod Listed
pub mod Message
pub mod Plan
pub mod Plans
