pub mod Agreeing
pub mod Each
pub mod LinesTell
pub mod OneMore
pub mod ProductTells
pub mod Telling
pub mod Tells
