pub mod Numbers
pub mod Findings
pub mod Searching
