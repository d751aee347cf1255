pub mod Derivations
pub mod View
pub mod Checked
