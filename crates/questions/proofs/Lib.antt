pub mod Truths
pub mod Settling
