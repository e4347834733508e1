pub mod GeneratedProgram
pub mod GeneratedUnit
pub mod Lines
pub mod ObjectFile
pub mod ProgramFile
pub mod Sized
