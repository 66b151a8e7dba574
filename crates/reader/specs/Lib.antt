pub mod Text
pub mod Reading
pub mod ReadingLaws
pub mod TextLaws
