pub mod AddressLemmas
pub mod Agreeing
pub mod Names
pub mod OpenedFiles
pub mod Origins
pub mod Refused
pub mod StabPass
pub mod Utf8
