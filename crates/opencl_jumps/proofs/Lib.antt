pub mod Reversed
pub mod Weights
