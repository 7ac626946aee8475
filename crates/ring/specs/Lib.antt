pub mod Ring
pub mod Residue
pub mod Pairs
pub mod Kinds
pub mod Plain
pub mod Shown
