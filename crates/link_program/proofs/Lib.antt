pub mod Holding
pub mod Sources
pub mod Bundles
pub mod Refusing
