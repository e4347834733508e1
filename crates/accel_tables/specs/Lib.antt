pub mod Hash
pub mod Found
pub mod Table
pub mod DataLists
pub mod EnteredNames
