pub mod Known
pub mod ValueLaws
pub mod Refused
