pub mod Format
pub mod Reading
pub mod Layout
pub mod OneProof
pub mod Parts
pub mod Book
