pub mod Writes
pub mod Factors
pub mod Signs
pub mod Pushes
pub mod Tables
