pub mod Letters
pub mod Journals
