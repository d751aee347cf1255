pub mod Spans
pub mod JoinedLines
pub mod Scans
pub mod Values
