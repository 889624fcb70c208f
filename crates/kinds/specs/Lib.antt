pub mod Reals
pub mod Wholes
