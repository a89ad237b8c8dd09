-- The boot sequence: its code, the states at reset, and its promises.
pub mod Sequence
pub mod Reset
pub mod Judging
pub mod Laws
