pub mod Kernels
pub mod Answers
pub mod Sources
pub mod Texts
pub mod Limits
