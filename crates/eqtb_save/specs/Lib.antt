pub mod First
pub mod Holding
pub mod Laws
pub mod Table
pub mod Values
