pub mod Verifying
