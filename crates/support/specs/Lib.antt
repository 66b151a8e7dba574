pub mod Spans
pub mod SpanLaws
pub mod Marks
pub mod MarkLaws
