pub mod Wording
pub mod Denying
pub mod Searches
pub mod Weighing
pub mod Equality
