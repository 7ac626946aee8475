pub mod Sets
pub mod Taken
pub mod Savings
pub mod Best
pub mod Laws
pub mod Tallies
pub mod Near
pub mod Progress
