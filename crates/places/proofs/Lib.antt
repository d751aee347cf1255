pub mod Stacking
pub mod Joins
pub mod Reached
pub mod Framing
pub mod Listed
