pub mod Answers
pub mod Kernels
pub mod Sources
pub mod Texts
