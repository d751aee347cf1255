pub mod TypedKernel
