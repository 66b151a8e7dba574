pub mod Both
pub mod BothLaws
