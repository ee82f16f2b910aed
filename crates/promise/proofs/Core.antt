pub mod Tasks
pub mod Demand
pub mod View
pub mod Release
pub mod Choice
pub mod Stack
pub mod Tick
pub mod Close
