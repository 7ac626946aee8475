pub mod Namings
pub mod Products
pub mod Covers
pub mod Looks
pub mod Rests
pub mod Likes
pub mod Wholes
