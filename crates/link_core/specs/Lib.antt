pub mod Linked
pub mod Passes
pub mod Unmerged
