pub mod WorkedItems
pub mod WorkedNumbers
pub mod WorkedStandards
