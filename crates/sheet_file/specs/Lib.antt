pub mod Bytes
pub mod Codes
pub mod File
pub mod Reading
pub mod Checking
pub mod Writing
pub mod Copying
