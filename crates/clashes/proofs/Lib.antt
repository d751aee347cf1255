pub mod Order
pub mod Knowing
pub mod Keys
pub mod Clashing
