pub mod View
pub mod Unfit
pub mod Claims
pub mod Bounds
