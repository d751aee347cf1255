pub mod Stacks
pub mod Slots
pub mod Acting
pub mod Identities
pub mod Keeping
pub mod Passing
pub mod Trails
pub mod RoundedDown
