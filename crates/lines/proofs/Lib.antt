pub mod Cuts
pub mod Decimals
pub mod Digits
pub mod Fronts
