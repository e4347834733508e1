pub mod Bids
pub mod Noting
pub mod Ahead
pub mod Tables
pub mod Sharing
pub mod Opening
pub mod Reading
