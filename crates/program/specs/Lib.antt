pub mod First
pub mod Running
pub mod Refusing
pub mod Verdicts
