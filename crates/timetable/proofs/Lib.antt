pub mod NumbersLaws
pub mod SlotsLaws
