pub mod Sums
pub mod Worths
pub mod Degrees
pub mod Tallies
pub mod Apart
pub mod Forms
pub mod Nested
pub mod Small
