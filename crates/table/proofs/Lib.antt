pub mod Loops
pub mod BoundTests
pub mod Halving
pub mod KindNumbers
pub mod Nested
pub mod Judging
