pub mod Declarations
pub mod Paths
pub mod Sound
pub mod Told
pub mod Unset
pub mod View
