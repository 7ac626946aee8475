pub mod Cards
pub mod Chosen
pub mod Naming
pub mod Dealing
