pub mod WorkedFiles
pub mod WorkedGraphs
