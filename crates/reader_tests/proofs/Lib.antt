pub mod Object
pub mod WorkedExpressions
pub mod WorkedLines
pub mod WorkedLists
pub mod WorkedFrames
pub mod WorkedMoves
