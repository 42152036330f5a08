pub mod Meaning
pub mod Bytes
pub mod Branch
pub mod Judgements
pub mod Suppositions
pub mod Checks
pub mod Examples
pub mod Theorems
