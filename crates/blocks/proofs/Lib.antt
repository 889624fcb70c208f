pub mod Layouts
pub mod Sorting
pub mod Cutting
pub mod Held
pub mod Scanning
pub mod Changes
pub mod Backward
pub mod Rise
