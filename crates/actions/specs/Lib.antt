pub mod Powers
pub mod Pumps
pub mod Samples
