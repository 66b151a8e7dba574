pub mod AskLine
pub mod Shapes
pub mod AskLineLaws
pub mod Input
pub mod Ending
pub mod InputLaws
