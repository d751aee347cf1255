pub mod KernelReads
