pub mod Findings
pub mod Likeness
pub mod Showing
pub mod Sizes
pub mod View
pub mod Visits
pub mod Wording
