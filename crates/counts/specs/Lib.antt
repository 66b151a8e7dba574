pub mod Count
pub mod Sums
pub mod Labels
pub mod Found
pub mod Walk
pub mod Sets
pub mod Log
