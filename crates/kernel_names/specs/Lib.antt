pub mod NameMap
pub mod View
pub mod Parameters
