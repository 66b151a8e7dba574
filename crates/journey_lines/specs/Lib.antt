pub mod Output
pub mod Steps
pub mod InputLaws
pub mod Turns
pub mod StepLaws
pub mod Along
pub mod OutputLaws
