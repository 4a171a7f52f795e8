pub mod Put
pub mod Flat
