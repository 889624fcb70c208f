pub mod Steps
pub mod Nesting
