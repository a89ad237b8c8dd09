-- The bytes of instructions, pieces of bytes and their lengths, and the text of the plan.
pub mod Instructions
pub mod Ranges
pub mod Lengths
pub mod PlanText
pub mod Wholes
