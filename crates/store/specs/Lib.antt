pub mod Reports
pub mod Answers
pub mod Lent
pub mod Rings
