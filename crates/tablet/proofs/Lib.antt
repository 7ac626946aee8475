pub mod Texts
pub mod Errors
