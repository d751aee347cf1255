pub mod Limits
pub mod LoopFree
pub mod Ranked
pub mod Within
