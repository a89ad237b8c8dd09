pub mod BuildSequences
pub mod CallDepth
pub mod Claims
pub mod EdgesOnLines
pub mod HandedFiles
pub mod LimitsKept
pub mod Sequences
