pub mod WordLemmas
pub mod Table
