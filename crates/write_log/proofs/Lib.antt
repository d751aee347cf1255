pub mod Entries
pub mod RisingEntries
pub mod RisingRuns
pub mod Stretches
pub mod Growing
pub mod Finding
pub mod Writing
