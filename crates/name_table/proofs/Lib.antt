pub mod Numbers
pub mod Refusals
pub mod Changes
pub mod Firsts
