pub mod SoundTests
