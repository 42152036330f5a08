pub mod Alike
pub mod Values
pub mod Findings
