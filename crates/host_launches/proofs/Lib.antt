pub mod Steps
pub mod Taking
pub mod Groups
pub mod Arguments
pub mod Words
pub mod Meeting
pub mod Numbered
