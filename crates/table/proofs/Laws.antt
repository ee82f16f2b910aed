pub mod Ceilings
pub mod Alike
