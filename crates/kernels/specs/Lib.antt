pub mod Kernels
pub mod Lists
pub mod Joins
pub mod Rests
pub mod Search
pub mod Named
