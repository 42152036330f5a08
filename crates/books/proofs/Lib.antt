pub mod Readings
pub mod Steps
pub mod Laid
pub mod Filter
pub mod Supposing
pub mod Settled
