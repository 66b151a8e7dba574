pub mod EventLaws
pub mod ShuffledLaws
pub mod OrderedLaws
pub mod LandedLaws
pub mod ScanLaws
pub mod ListsLaws
pub mod EarlyLaws
pub mod PromiseLaws
