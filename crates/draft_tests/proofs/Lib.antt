pub mod WorkedUnit
