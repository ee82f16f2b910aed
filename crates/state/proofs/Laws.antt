pub mod Answers
pub mod Fresh
pub mod Stacks
pub mod Past
pub mod Holders
pub mod Order
