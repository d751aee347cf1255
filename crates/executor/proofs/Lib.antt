pub mod Kernels
pub mod Buffered
pub mod Typed
