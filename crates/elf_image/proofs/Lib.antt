pub mod Again
pub mod Fields
pub mod Good
pub mod Loaded
pub mod Loads
pub mod ReadBytes
pub mod Refusals
pub mod Rest
