pub mod Sent
pub mod SentLaws
