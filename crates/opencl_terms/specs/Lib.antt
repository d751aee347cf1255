pub mod Answers
pub mod Components
pub mod Conversions
pub mod Operations
pub mod Operators
pub mod Ranges
pub mod Types
pub mod View
