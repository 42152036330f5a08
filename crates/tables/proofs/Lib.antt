pub mod Counts
pub mod Refused
pub mod Packs
pub mod Rows
pub mod Zero
pub mod Trails
