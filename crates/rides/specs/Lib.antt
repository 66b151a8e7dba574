pub mod Prepared
pub mod PreparedLaws
pub mod Lists
pub mod Asking
pub mod ListsLaws
pub mod Accepted
pub mod AcceptedLaws
