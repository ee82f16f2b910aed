pub mod Limits
pub mod Computed
