pub mod Leaders
pub mod Linking
pub mod Pairs
pub mod Symbols
pub mod Clashes
pub mod Models
pub mod Writing
pub mod Theorems
