pub mod GlueViews
pub mod GlueResumes
pub mod GlueWorked
