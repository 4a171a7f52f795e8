pub mod Putting
pub mod Numbers
pub mod Forms
pub mod Strings
pub mod ByRow
pub mod Behind
