pub mod Events
pub mod Scan
pub mod Scanned
pub mod Closed
pub mod Ordered
pub mod Lists
