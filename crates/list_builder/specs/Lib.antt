pub mod Stages
pub mod Scans
pub mod Forms
pub mod Rows
