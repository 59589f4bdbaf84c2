pub mod Views
pub mod Resumes
pub mod Frames
pub mod Stack
pub mod Weights
