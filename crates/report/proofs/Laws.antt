pub mod Jobs
pub mod Answers
pub mod Sections
pub mod Alike
pub mod Steps
