pub mod Alike
pub mod BareCore
pub mod BareRuns
pub mod Meaning
