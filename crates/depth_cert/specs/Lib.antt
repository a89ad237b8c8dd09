-- Definitions of certificates: keys, nodes and points, the grammar, and the spelling.
pub mod Answers
pub mod Certs
pub mod Grammar
pub mod Keys
pub mod Nodes
pub mod Points
pub mod Spelling
pub mod SpellingLaws
pub mod Exits
pub mod Known
pub mod WellFormed
