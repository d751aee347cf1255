pub mod Moves
pub mod Logs
