pub mod Numbers
pub mod Legal
pub mod Numerals
pub mod Parts
pub mod Making
pub mod Counting
pub mod Values
