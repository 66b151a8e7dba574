pub mod CasesLaws
pub mod DayLaws
