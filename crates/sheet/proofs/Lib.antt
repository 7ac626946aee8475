pub mod Rules
pub mod Determined
