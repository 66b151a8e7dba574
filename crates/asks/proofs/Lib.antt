pub mod BetterLaws
pub mod FoundLaws
pub mod CandidateLaws
pub mod SketchLaws
pub mod JoinLaws
pub mod InsFoundLaws
pub mod PermittedLaws
pub mod AskLaws
