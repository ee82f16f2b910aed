pub mod View
pub mod Invariant
pub mod Choice
pub mod Release
pub mod Runner
pub mod Tick
