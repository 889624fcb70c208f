pub mod Items
pub mod Bodies
