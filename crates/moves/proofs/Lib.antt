pub mod Accounts
pub mod Ascents
pub mod Directing
pub mod Entering
pub mod Leaving
pub mod Puts
pub mod Sounds
