-- Commands: their inputs, reports and outcomes, and how they end.
pub mod Endings
pub mod Inputs
pub mod Outcomes
pub mod Reports
pub mod Statuses
pub mod EndingLaws
pub mod ReportLaws
