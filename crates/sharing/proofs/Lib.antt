mod Bests
pub mod Rows
mod Outs
pub mod Marks
