pub mod Steps
pub mod Opening
pub mod Readings
pub mod Counting
pub mod Passes
pub mod Masks
