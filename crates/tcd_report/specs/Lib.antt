-- The graph of a certificate, its report, and generated images with their plan.
pub mod Texts
pub mod Judging
pub mod Graphs
pub mod Reports
pub mod Generated
