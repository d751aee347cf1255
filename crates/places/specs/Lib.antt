pub mod View
pub mod Reaching
pub mod Frames
pub mod Behind
pub mod Listing
pub mod Numbers
pub mod Answers
