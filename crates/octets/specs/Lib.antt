pub mod Answers
pub mod Cause
pub mod Part
pub mod Presence
pub mod Touched
