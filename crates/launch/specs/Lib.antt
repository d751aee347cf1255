pub mod Numbers
pub mod View
pub mod Differences
pub mod Unmet
pub mod Least
