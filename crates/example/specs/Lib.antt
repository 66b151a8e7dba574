pub mod Day
pub mod Cases
pub mod CaseTests
pub mod DayNumbers
