-- Places of frames in a table, rows of needs, and the graph of their entries.
pub mod Spots
pub mod PointEntries
pub mod Hashed
pub mod Work
pub mod Marks
pub mod Numbers
pub mod Counting
pub mod NodeGraph
pub mod RowNeeds
