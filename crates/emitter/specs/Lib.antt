pub mod Appended
pub mod Chained
pub mod Multiplied
pub mod Operations
pub mod Terms
pub mod Wrote
