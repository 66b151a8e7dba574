pub mod Found
pub mod Candidates
pub mod Join
pub mod Asks
pub mod Permitted
pub mod Reasons
