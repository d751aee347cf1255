pub mod Options
pub mod Answers
pub mod Meeting
pub mod Putting
pub mod Readings
pub mod Explaining
pub mod Building
pub mod Running
