pub mod Steps
pub mod Walks
pub mod Nears
pub mod Bests
pub mod Orders
