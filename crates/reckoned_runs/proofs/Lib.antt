pub mod Lefts
pub mod Asks
pub mod Worlds
pub mod Example
