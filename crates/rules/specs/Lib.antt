pub mod ControlRules
pub mod Events
pub mod LinkRules
pub mod Reporting
pub mod Sends
pub mod Views
