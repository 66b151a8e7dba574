pub mod Four
pub mod FourLaws
