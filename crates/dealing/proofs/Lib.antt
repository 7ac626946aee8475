pub mod Namings
pub mod Finds
pub mod Values
pub mod Ties
pub mod Lookings
pub mod Tables
pub mod Dealts
