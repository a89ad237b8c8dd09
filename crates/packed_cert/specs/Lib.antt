-- Certificates on the bytes of their file.
pub mod ToCover
pub mod ValuesInBytes
pub mod Moves
pub mod NodesInBytes
pub mod EnteredAlike
pub mod PointsInBytes
pub mod RepeatedBytes
pub mod Walks
pub mod ChangedRows
