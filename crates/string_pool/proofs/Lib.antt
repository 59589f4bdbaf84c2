pub mod Cuts
pub mod Views
