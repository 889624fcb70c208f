pub mod Encode
pub mod Decode
pub mod Laws
