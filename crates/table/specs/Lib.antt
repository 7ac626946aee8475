pub mod Of
pub mod Sound
pub mod Counting
pub mod Adding
