pub mod Settings
pub mod Flat
pub mod Texts
