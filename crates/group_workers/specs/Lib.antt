pub mod Dealing
pub mod Writing
pub mod Tasks
