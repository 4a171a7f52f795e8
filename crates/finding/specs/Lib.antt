pub mod Passing
pub mod Leading
pub mod Following
pub mod Placing
