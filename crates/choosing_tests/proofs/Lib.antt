pub mod OneObject
pub mod SoundTests
pub mod WorkedLinks
pub mod WorkedMoves
