pub mod Bytes
pub mod Words
pub mod WordsLaws
pub mod StretchLaws
pub mod Turns
pub mod Digits
pub mod DigitsLaws
