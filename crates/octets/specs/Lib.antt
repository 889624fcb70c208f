pub mod Big
pub mod Places
