pub mod Unproved
