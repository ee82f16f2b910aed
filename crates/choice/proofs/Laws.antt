pub mod Bars
pub mod Again
pub mod Choice
pub mod Ready
pub mod Rules
pub mod Runner
pub mod Speed
pub mod Alike
