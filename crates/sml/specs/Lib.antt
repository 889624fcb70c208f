pub mod Texts
pub mod Nested
