pub mod Records
pub mod Choice
pub mod Joined
pub mod Laws
