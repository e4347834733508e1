pub mod Opening
pub mod Sources
pub mod Marks
pub mod Reading
pub mod MadeNames
