pub mod Memories
pub mod Worlds
pub mod Divergences
