pub mod Powers
pub mod Rows
pub mod Expressions
pub mod Shares
