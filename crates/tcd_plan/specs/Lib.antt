-- Definitions of plans: what holds of every plan, and the plan in a document.
pub mod PlanData
pub mod Keys
pub mod KeyRows
pub mod JsonValues
pub mod Objects
pub mod PlanReader
pub mod MappedAddresses
pub mod Cutting
pub mod ValueForms
pub mod KeyFaults
