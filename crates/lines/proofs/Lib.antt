pub mod Laws
pub mod Computed
