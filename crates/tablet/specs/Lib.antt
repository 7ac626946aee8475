pub mod Kinds
pub mod Telling
pub mod Measuring
pub mod Evaluating
pub mod Answering
