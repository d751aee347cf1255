pub mod Handing
pub mod Same
pub mod Sound
