pub mod Gains
pub mod Verdicts
