pub mod Rules
pub mod Promise
