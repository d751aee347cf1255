pub mod Products
pub mod Unmet
pub mod Least
pub mod ByCounts
