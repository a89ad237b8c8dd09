-- Definitions of the effects of instructions and branches on states, and of their soundness.
pub mod Branches
pub mod Changes
pub mod EffectsOnStates
pub mod Holding
pub mod Intervals
pub mod OperationLaws
pub mod Operations
pub mod Refinement
pub mod Registers
pub mod Relations
pub mod Signs
pub mod Soundness
pub mod EffectsOnWords
