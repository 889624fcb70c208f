pub mod Laws
pub mod Orders
pub mod Pairs
pub mod Passes
pub mod Runs
