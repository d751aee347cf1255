pub mod Bytes
pub mod Identifiers
pub mod Left
pub mod Lines
pub mod Numbers
