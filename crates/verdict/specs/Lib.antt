pub mod Early
pub mod EarlyLaws
pub mod Minutes
pub mod MinutesLaws
pub mod Gaps
pub mod GapLaws
pub mod Verdict
pub mod VerdictLaws
