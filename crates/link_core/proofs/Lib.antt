pub mod Bundling
pub mod Unmerging
pub mod WithinLimits
