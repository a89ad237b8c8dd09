-- The report of a command: a status, a text to print, and files to write before it.
use Rattle.std.specs.Prelude.{ℕ, List, ◌∷◌, ◌≡◌, ◌⊎◌, Option, []}
use Rattle.tcd_base.specs.Files.{FileMap, files_after_write}
use Rattle.tcd_reading.specs.declared.status.Status.{Status}
use Rattle.tcd_reading.specs.declared.status.Status.TheVariants.{Done, Refused, BadInput}

-- a file that a report writes: its name and its bytes
pub record ReportFile : Type 0 where
  pub name : List ℕ
  pub bytes : List ℕ

-- the report of a command: a status, the text to print, and the files to write before it
pub record Report : Type 0 where
  pub status : Status
  pub text : List ℕ
  pub writes : List ReportFile

-- the status is one that a command's report can have: done, refused or bad input, as neither files
-- nor memory nor the arguments are at fault
abbrev pub IsReportStatus : Status → Type 0
IsReportStatus s = (s ≡ Done) ⊎ ((s ≡ Refused) ⊎ (s ≡ BadInput))

-- a command's report that writes no file: a status and a text to print
abbrev pub text_report : Status → List ℕ → Report
text_report status text = record { status = status; text = text; writes = [] }

-- a command's report that is done, with one file to write
abbrev pub report_with_file : List ℕ → List ℕ → List ℕ → Report
report_with_file name bytes text = record { status = Done; text = text; writes = record { name = name; bytes = bytes } ∷ [] }

-- a command's report that is done, with two files to write in this order
abbrev pub report_with_two_files : ReportFile → ReportFile → List ℕ → Report
report_with_two_files first second text = record { status = Done; text = text; writes = first ∷ second ∷ [] }

-- the files after a report's own files were written into them, in the order in which the report has
-- them
abbrev pub with_report_files : Option FileMap → List ReportFile → Option FileMap
with_report_files held [] = held
with_report_files held (w ∷ ws) = with_report_files (files_after_write held w.name w.bytes) ws

-- a command's report that is done, with several files to write, one after another
abbrev pub report_with_files : List ReportFile → List ℕ → Report
report_with_files writes text = record { status = Done; text = text; writes = writes }

-- a report on an input that isn't in its form: one of these lines with status BadInput, and nothing
-- to write
pub record RejectsInput (IsLine : List ℕ → Type 0) (report : Report) : Type 0 where
  pub status : report.status ≡ BadInput
  pub line : IsLine report.text
  pub nothing : report.writes ≡ []
