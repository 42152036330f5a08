pub mod Lists
pub mod Rest
pub mod Calls
pub mod Stored
pub mod Working
pub mod Layers
pub mod Suppositions
pub mod Reckoned
