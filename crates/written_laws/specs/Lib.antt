pub mod ReadDeclarations
pub mod ReadValues
pub mod ReadEntries
pub mod ReadUnits
pub mod LedBack
pub mod ReadParts
