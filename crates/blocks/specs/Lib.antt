pub mod Layout
pub mod Blocks
pub mod Stores
pub mod Laws
