pub mod Puts
pub mod Turning
pub mod Reading
