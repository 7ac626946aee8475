pub mod Cubes
pub mod Sums
pub mod Rows
pub mod Worth
pub mod Counts
pub mod Kernels
pub mod Figures
pub mod Laws
