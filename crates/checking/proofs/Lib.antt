pub mod Congruence
pub mod Ranges
pub mod Searching
pub mod Found
