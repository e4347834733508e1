mod FieldLoop
mod DeclarationLoop
mod Few
pub mod TableLaws
pub mod Refused
