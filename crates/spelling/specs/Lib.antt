pub mod Texts
pub mod Spellings
pub mod WheelSpelledLemmas
