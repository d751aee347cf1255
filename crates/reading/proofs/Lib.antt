pub mod Lexemes
pub mod Grammatical
pub mod Sizes
