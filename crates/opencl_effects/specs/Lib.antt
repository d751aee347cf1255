pub mod Effects
pub mod Marks
pub mod View
