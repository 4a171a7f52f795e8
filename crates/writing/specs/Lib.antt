pub mod Noted
pub mod Members
