-- Definitions of values, states, their order and joins, and the thresholds of a plan.
pub mod Floors
pub mod Laws
pub mod Limits
pub mod Meets
pub mod MergedLists
pub mod Sets
pub mod State
pub mod StateLaws
pub mod Thresholds
pub mod Values
pub mod VersionLimits
