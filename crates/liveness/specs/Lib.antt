pub mod Roots
pub mod ChildTable
pub mod Marking
