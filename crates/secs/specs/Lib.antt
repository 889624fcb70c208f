pub mod Formats
pub mod Elements
