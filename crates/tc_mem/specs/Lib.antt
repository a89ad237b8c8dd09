-- Definitions of memory in pages, of areas and blocks in it, and of the memory of a plan.
pub mod Areas
pub mod Blocks
pub mod Pages
pub mod PlanMemory
pub mod Written
