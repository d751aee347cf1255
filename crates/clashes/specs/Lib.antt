pub mod Marks
pub mod View
pub mod Knowledge
pub mod Elements
pub mod Histories
pub mod Watched
