pub mod Pieces
pub mod Written
pub mod Leaves
pub mod Heads
pub mod Files
pub mod Chunks
pub mod Held
