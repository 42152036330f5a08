pub mod Laws
pub mod Marked
pub mod Counted
pub mod Shown
pub mod Bytes
