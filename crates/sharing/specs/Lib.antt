pub mod Pairs
pub mod Out
