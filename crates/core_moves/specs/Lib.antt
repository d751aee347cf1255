pub mod Moving
pub mod View
