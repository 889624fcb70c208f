pub mod Laws
pub mod Sittings
