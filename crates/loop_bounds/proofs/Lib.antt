mod Products
pub mod Enough
