pub mod Made
pub mod Release
pub mod Choose
pub mod Idle
pub mod Run
pub mod Each
