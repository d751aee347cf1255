pub mod Turns
pub mod Costs
pub mod Falling
pub mod Answers
