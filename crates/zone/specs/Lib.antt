pub mod Zones
pub mod Laws
pub mod Places
pub mod Runs
pub mod Variables
