pub mod Domains
pub mod Claims
pub mod Kernels
pub mod Forks
