pub mod InTurn
pub mod Keeping
pub mod Cuts
pub mod Expanding
pub mod Feeding
pub mod Answering
pub mod Running
