pub mod Ranging
pub mod Using
