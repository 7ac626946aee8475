mod Letters
pub mod Made
mod Orders
mod Rows
pub mod Shared
pub mod Tests
