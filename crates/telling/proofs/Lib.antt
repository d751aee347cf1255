pub mod Meanings
pub mod ProvingMeanings
pub mod Refusing
