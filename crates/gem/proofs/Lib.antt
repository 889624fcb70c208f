pub mod Calling
pub mod Ending
