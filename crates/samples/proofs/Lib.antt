pub mod Endless
pub mod Store
pub mod StoresRead
pub mod Gathering
