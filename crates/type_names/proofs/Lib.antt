pub mod Worked
pub mod WorkedSpelling
pub mod MarkRows
pub mod Listed
pub mod Texts
pub mod Scopes
pub mod Decimals
pub mod Reading
pub mod Lineages
pub mod Subtrees
pub mod Cleaning
pub mod HeadTests
pub mod TextRows
pub mod Pooling
mod Unmerged
mod Telling
pub mod References
mod Fields
mod Orders
mod Parentheses
mod Holding
