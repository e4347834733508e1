pub mod Between
pub mod Drafts
pub mod FromDrafts
pub mod Headers
pub mod InTurn
pub mod LineTables
pub mod SubRooms
pub mod UnitByUnit
