pub mod Lookup
pub mod Scanning
pub mod LookupLaws
pub mod Mark
pub mod MarkLaws
pub mod Index
pub mod IndexLaws
pub mod EnterLaws
