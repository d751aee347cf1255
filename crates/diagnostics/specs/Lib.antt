pub mod Confirming
pub mod Possible
pub mod Replays
