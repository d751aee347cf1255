pub mod Arguments
pub mod Calls
pub mod Lists
pub mod Placing
pub mod Trees
pub mod Weights
