pub mod Cutting
pub mod Finding
pub mod FrontSteps
pub mod HeaderSteps
pub mod Splits
pub mod Telling
