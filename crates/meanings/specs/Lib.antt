pub mod Holding
pub mod Kept
pub mod Laws
