pub mod Files
pub mod FilesLaws
