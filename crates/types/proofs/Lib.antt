pub mod Arguments
pub mod Bindings
pub mod Blocks
pub mod KernelNames
pub mod Kernels
pub mod Names
pub mod Parameters
pub mod Rooms
