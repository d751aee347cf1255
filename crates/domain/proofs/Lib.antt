pub mod Masking
pub mod Widths
