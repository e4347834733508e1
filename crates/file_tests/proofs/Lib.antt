pub mod Images
pub mod WorkedArchives
pub mod WorkedImages
pub mod WorkedMaps
pub mod WorkedMoves
pub mod WorkedRelocations
pub mod WorkedRoles
