pub mod Ranges
pub mod Blocking
pub mod Sums
pub mod Verdict
pub mod Admitted
pub mod Alike
pub mod Room
pub mod Slices
