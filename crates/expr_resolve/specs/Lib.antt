pub mod Context
pub mod Expressions
pub mod Sound
pub mod Steps
