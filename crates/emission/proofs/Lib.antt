pub mod Letters
pub mod Chains
pub mod Makings
pub mod Legals
pub mod Counting
