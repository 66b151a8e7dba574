pub mod Starts
pub mod StartsLaws
pub mod Seek
pub mod SeekLaws
pub mod Sets
pub mod SetsLaws
