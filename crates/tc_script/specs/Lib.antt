-- Definitions of turn scripts: their statements, their effect together, and runs of the machine.
pub mod Numbers
pub mod Statements
pub mod ScriptData
pub mod ScriptText
pub mod ScriptsFitPlans
pub mod Ports
pub mod DrivenRuns
pub mod ScriptRuns
pub mod AreasInSequence
pub mod KnownWords
