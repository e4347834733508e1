pub mod FileRoom
pub mod Records
pub mod RoomAbove
pub mod SegmentCommands
pub mod TheFile
pub mod Told
pub mod WorkedImage
