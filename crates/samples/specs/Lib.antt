pub mod Terms
pub mod Kernels
pub mod Devices
pub mod OneStore
pub mod Surface
pub mod Stores
pub mod Bounded
