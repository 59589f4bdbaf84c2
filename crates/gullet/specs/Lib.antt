pub mod Clauses
pub mod Stepping
