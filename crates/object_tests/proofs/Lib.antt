pub mod WorkedLines
pub mod WorkedUnits
pub mod WorkedValues
