pub mod Views
pub mod Resumes
pub mod DimenViews
pub mod DimenResumes
pub mod DimenWorked
pub mod DimenLaws
