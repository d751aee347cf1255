pub mod Proper
pub mod View
pub mod Left
pub mod Items
pub mod Asks
pub mod Rests
