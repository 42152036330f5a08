pub mod Steps
pub mod Performing
