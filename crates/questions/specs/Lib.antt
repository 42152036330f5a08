pub mod Verdicts
pub mod Asked
pub mod Laws
