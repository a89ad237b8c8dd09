-- Definitions of the machine: its state, instructions, events, start states, and safety.
pub mod Machine
pub mod SavesAndRestores
pub mod Fetching
pub mod Instructions
pub mod InstructionKinds
pub mod Stepping
pub mod PlanAreas
pub mod Safe
pub mod Starting
pub mod MachineLaws
pub mod Handlers
