pub mod Alarms
pub mod Calls
pub mod Endings
pub mod Faults
pub mod Runs
pub mod Starts
pub mod Statuses
pub mod Turns
