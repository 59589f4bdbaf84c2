pub mod Views
pub mod Resumes
pub mod FactorViews
pub mod FactorResumes
pub mod Laws
pub mod Worked
