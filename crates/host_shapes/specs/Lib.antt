pub mod Meant
pub mod Types
pub mod Texts
pub mod Shapes
pub mod View
