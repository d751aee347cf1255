mod Elements
mod Narrow
mod Storage
