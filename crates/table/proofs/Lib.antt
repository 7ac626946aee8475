pub mod Looks
pub mod Puts
pub mod Adds
pub mod Alikes
