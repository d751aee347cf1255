pub mod Spelling
pub mod Seen
