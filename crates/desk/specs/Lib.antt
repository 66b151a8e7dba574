pub mod Spelled
pub mod Places
pub mod CheckLaws
pub mod SpelledLaws
pub mod Told
pub mod ToldLaws
pub mod ToldOneLaws
pub mod LongLaws
