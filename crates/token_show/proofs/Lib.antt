mod Naming
mod Steps
mod Walking
