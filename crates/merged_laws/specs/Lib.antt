pub mod Files
pub mod Leads
pub mod Says
pub mod SourceFiles
pub mod Stands
