pub mod Tokens
pub mod Runs
pub mod Bodies
pub mod Suiting
pub mod Bounds
