pub mod Holding
pub mod Numbers
pub mod Checks
pub mod Room
pub mod Styles
