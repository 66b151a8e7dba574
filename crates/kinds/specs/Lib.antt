pub mod Limits
pub mod Refusals
pub mod Kinds
pub mod KindsLaws
