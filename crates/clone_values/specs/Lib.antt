pub mod Cut
pub mod Files
pub mod Images
