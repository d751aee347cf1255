pub mod Linear
pub mod Exact
pub mod Terms
pub mod Forms
pub mod Errors
pub mod Sizes
pub mod Products
