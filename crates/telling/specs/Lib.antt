pub mod Proving
pub mod ProvingVerdicts
pub mod Refusals
pub mod Refusing
pub mod Showing
pub mod Telling
pub mod Verdicts
pub mod Migrating
