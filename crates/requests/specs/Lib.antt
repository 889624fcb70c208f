pub mod Faults
pub mod Requests
