pub mod Controls
pub mod Links
