pub mod Lines
pub mod Fine
pub mod LinesLaws
