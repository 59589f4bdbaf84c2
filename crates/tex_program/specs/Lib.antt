pub mod Clauses
pub mod Named
pub mod Says
pub mod Tells
