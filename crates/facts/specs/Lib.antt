pub mod Numbers
pub mod Symbols
pub mod Elements
pub mod Launching
pub mod View
pub mod Families
pub mod Refusals
