-- The outcome of a command.
use Rattle.std.specs.Prelude.{◌≡◌, ◌≤◌, ℕ, List, Result, Ok, Err}
use Rattle.tcd_base.specs.Files.{FilesSeen, IsReadSure}
use Rattle.tcd_base.specs.FailingCalls.{IsFaultCounted}
use Rattle.tcd_reading.specs.Reports.{Report, text_report}
use Rattle.tcd_reading.specs.Inputs.{Reading, ReadingSays, HasAllInputs, HasFailedToReadInput}
use Rattle.tcd_reading.specs.declared.outcome.Stop.{Stop}
use Rattle.tcd_reading.specs.declared.outcome.Stop.TheVariants as stop
use Rattle.tcd_reading.specs.declared.status.Status.TheVariants.{BadInput}

-- the outcome of a command: its report, or why it stopped before
abbrev pub Outcome : Type 0
Outcome = Result Report Stop

-- the outcome is such a report; or a file wasn't read, if that can happen; or memory ran out
abbrev pub IsReportOutcome : (Report → Type 0) → Type 0 → Outcome → Type 0
IsReportOutcome IsReport MayFail (Ok report) = IsReport report
IsReportOutcome IsReport MayFail (Err (stop.BadInput line)) = IsReport (text_report BadInput line.items)
IsReportOutcome IsReport MayFail (Err stop.Unread) = MayFail
IsReportOutcome IsReport MayFail (Err stop.NoMemory) = Unit {0}

-- the outcome of a command after its files were read: such a report, with status BadInput if it is
-- on a bad input; or memory ran out
abbrev pub IsReportOrNoMemory : (Report → Type 0) → Outcome → Type 0
IsReportOrNoMemory IsReport o = IsReportOutcome IsReport ⊥ o

-- a command stops: with one of these lines for a bad input, on a failed read if that can happen, or
-- out of memory
abbrev pub IsBadInputStop : (List ℕ → Type 0) → Type 0 → Stop → Type 0
IsBadInputStop IsLine MayFail (stop.BadInput line) = IsLine line.items
IsBadInputStop IsLine MayFail stop.Unread = MayFail
IsBadInputStop IsLine MayFail stop.NoMemory = Unit {0}

-- a command whose file was read stops: with one of these lines for a bad input, or out of memory
abbrev pub IsBadInputOrNoMemory : (List ℕ → Type 0) → Stop → Type 0
IsBadInputOrNoMemory IsLine = IsBadInputStop IsLine ⊥

-- why an outcome has no report: a file couldn't be read, so that a fault was counted, and the files
-- weren't sure of that file
pub record HasFailedToReadFile (name : List ℕ) (old new : FilesSeen) : Type 0 where
  pub counted : IsFaultCounted old.faults new.faults
  pub unsure : IsReadSure old name → ⊥

-- the outcome of a command with this reading, and the files after its inputs were read
pub record IsCommandOutcome (reading : Reading) (old new : FilesSeen) (o : Outcome) : Type 0 where
  pub held : new.held ≡ old.held
  pub steady : new.steady ≡ old.steady
  pub later : old.faults ≤ new.faults
  pub sure : HasAllInputs reading old → new.faults ≡ old.faults
  pub told : IsReportOutcome (ReadingSays reading old.held) (HasFailedToReadInput reading old new) o
