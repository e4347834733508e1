pub mod Totals
pub mod Rules
pub mod Places
pub mod Ordering
pub mod Working
pub mod Turns
