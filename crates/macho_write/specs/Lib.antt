pub mod Records
pub mod SymbolTable
