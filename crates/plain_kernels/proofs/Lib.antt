mod Ends
mod Terms
mod Indexes
mod Trees
mod Stores
mod Placing
mod Fitting
mod Crossed
mod Opening
mod Bodies
pub mod Covering
pub mod Plainly
