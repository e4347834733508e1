pub mod Analysing
pub mod Holding
pub mod MadeNames
pub mod Marking
pub mod Members
pub mod ObjectsRead
pub mod Slices
