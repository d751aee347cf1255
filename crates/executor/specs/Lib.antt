pub mod Ends
pub mod Kinds
pub mod Results
pub mod Numbers
