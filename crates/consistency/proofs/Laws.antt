pub mod Facts
pub mod Found
pub mod Held
pub mod Jobs
pub mod Middle
pub mod Places
pub mod Alike
