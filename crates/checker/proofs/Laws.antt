pub mod Limits
pub mod Examined
