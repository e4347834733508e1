pub mod Lines
pub mod Spans
pub mod Frames
pub mod Places
pub mod Parts
