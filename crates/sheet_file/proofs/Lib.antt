pub mod Rows
pub mod Put
pub mod Files
pub mod Known
