pub mod Reports
pub mod Definitions
