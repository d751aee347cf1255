pub mod Told
pub mod Witnesses
