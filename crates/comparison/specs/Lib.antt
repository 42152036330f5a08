pub mod Compared
pub mod Laws
