pub mod Takens
pub mod Rewrites
pub mod Factoring
