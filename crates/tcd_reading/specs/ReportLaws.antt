-- The reports of a command and the inputs that it needs, in plain equations: the statements of
-- guard laws.
use Rattle.std.specs.Prelude.{◌≡◌, ◌⊎◌, ℕ, List, Some}
use Rattle.std.specs.FinMap.{get}
use Rattle.tcd_base.specs.Files.{FileMap}
use Rattle.tcd_reading.specs.Reports.{Report, RejectsInput}
use Rattle.tcd_reading.specs.Inputs.{Reading, answer, input, ReadingSays, HoldsNeededInputs, MapHoldsInput, MapHoldsBadInput}

-- what a guard law says of a report on files that are read in turn: the next one is bad; or it has
-- a value, and the same is said of the others; of all values this is reported
abbrev pub IsReportOfFilesInTurn : Reading → FileMap → Report → Type 0
IsReportOfFilesInTurn (answer IsReport) m report = IsReport report
IsReportOfFilesInTurn (input A form name next) m report = RejectsInput (MapHoldsBadInput form m name) report ⊎ ((x : A) × MapHoldsInput form m name x × IsReportOfFilesInTurn (next x) m report)

-- a guard law says this of each report of a command
abbrev pub ReportLaw : Reading → Type 0
ReportLaw reading = (m : FileMap) (report : Report) → ReadingSays reading (Some m) report → IsReportOfFilesInTurn reading m report

-- a guard law asks for these inputs of a command: the first is there and, where it has a value, so
-- are the others
abbrev pub AreInputsPresentInTurn : Reading → FileMap → Type 0
AreInputsPresentInTurn (answer IsReport) m = Unit {0}
AreInputsPresentInTurn (input A form name next) m = ((bytes : List ℕ) × (get m name ≡ Some bytes)) × ((x : A) → MapHoldsInput form m name x → AreInputsPresentInTurn (next x) m)

-- guard law of a command: if these inputs are there, the files hold all inputs that it needs
abbrev pub NeededInputsLaw : Reading → Type 0
NeededInputsLaw reading = (m : FileMap) → AreInputsPresentInTurn reading m → HoldsNeededInputs reading (Some m)
