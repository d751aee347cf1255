pub mod Exits
pub mod Functions
pub mod Labels
pub mod Leaving
pub mod Made
pub mod Parts
pub mod Switches
pub mod View
