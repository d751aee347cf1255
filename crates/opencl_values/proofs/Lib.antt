pub mod Arguments
pub mod Chosen
pub mod Components
