pub mod Parts
pub mod Ends
pub mod Groups
pub mod Themselves
pub mod Bodies
pub mod Formed
pub mod Feeding
pub mod Going
