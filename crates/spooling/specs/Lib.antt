pub mod Holdings
pub mod Entering
pub mod Leaving
pub mod Ending
