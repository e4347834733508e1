pub mod Inside
pub mod NameLoop
pub mod EntryLoop
pub mod UlebLoop
pub mod OperationPlaces
pub mod ProgramLoop
pub mod Programs
pub mod Steps
pub mod RisingRows
pub mod EntryTables
mod Whole
mod Refused
mod MarkedNames
