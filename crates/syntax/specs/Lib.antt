pub mod Refusals
pub mod Limits
pub mod Signs
pub mod Lawful
pub mod Decided
pub mod Codes
pub mod Numbers
