pub mod Opening
pub mod OpenLaws
pub mod Choosing
pub mod ChooseLaws
