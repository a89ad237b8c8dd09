-- How a command ends, in terms of the views of the files and of the sink.
use Rattle.std.specs.Prelude.{◌≡◌, ◌≢◌, ◌⊎◌, Option, ◌≤◌, ℕ, List, IsTrue, ◌∷◌, ◌++◌, [], Ok, Err}
use Rattle.tcd_base.specs.Files.{FileMap, FilesSeen, KeepsFaultsIfSteady, OtherFilesStay}
use Rattle.tcd_base.specs.FailingCalls.{IsFaultCounted}
use Rattle.tcd_base.specs.Sink.{SinkSeen, HasRoomFor, AppendsPrefix, IsPrinted}
use Rattle.tcd_reading.specs.Reports.{Report, IsReportStatus, with_report_files, ReportFile, text_report}
use Rattle.tcd_reading.specs.Inputs.{Reading, ReadingSays, HasAllInputs}
use Rattle.tcd_reading.specs.declared.status.Status.{Status}
use Rattle.tcd_reading.specs.declared.status.Status.TheVariants.{Done, Refused, BadInput, Fault, NoMemory, BadWords}
use Rattle.tcd_reading.specs.Outcomes.{Outcome}
use Rattle.tcd_reading.specs.declared.status.Status.TheVariants as status
use Rattle.tcd_reading.specs.declared.outcome.Stop.TheVariants as stop

-- the sink has room for the text of each report that a command may have, so that the command can't
-- end with a fault of the sink
abbrev pub HasRoomForReports : Reading → Option FileMap → SinkSeen → Type 0
HasRoomForReports reading held sink = (report : Report) → ReadingSays reading held report → HasRoomFor sink report.text

-- how a command ends that prints: the text is whole in the sink, and its status returned; or the
-- sink, which wasn't sure to have room for it, failed within it, which is a fault
pub data PrintsWithStatus (s : Status) (text : List ℕ) (old new : SinkSeen) (result : Status) : Type 0 where
  whole : result ≡ s → IsPrinted text old new → PrintsWithStatus s text old new result
  cut :
      result ≡ status.Fault → AppendsPrefix old.written new.written text → IsFaultCounted old.faults new.faults → (HasRoomFor old text → ⊥)
      → PrintsWithStatus s text old new result

-- An ending in which writing a file failed: the files before it are written, its own contents are
-- unknown, and the files after it aren't touched.
pub record ReportWritingStopped (held held' : Option FileMap) (writes : List ReportFile) : Type 0 where
  pub front : List ReportFile
  pub at : ReportFile
  pub rest : List ReportFile
  pub are : writes ≡ front ++ at ∷ rest
  pub others : OtherFilesStay at.name (with_report_files held front) held'

-- how a command that has a report ends: its files are written and its text goes to the sink; or a
-- write failed, over files that aren't steady, or ran out of memory, and nothing is printed
pub data IsEndingWithReport (report : Report) (files files' : FilesSeen) (sink sink' : SinkSeen) (result : Status) : Type 0 where
  printed : files'.held ≡ with_report_files files.held report.writes → PrintsWithStatus report.status report.text sink sink' result → IsEndingWithReport report files files' sink sink' result
  unwritten :
      result ≡ status.Fault → sink' ≡ sink → ReportWritingStopped files.held files'.held report.writes → IsFaultCounted files.faults files'.faults
      → (IsTrue files.steady → ⊥) → IsEndingWithReport report files files' sink sink' result
  no_memory : result ≡ status.NoMemory → sink' ≡ sink → ReportWritingStopped files.held files'.held report.writes → IsEndingWithReport report files files' sink sink' result

-- a command ends without effect: the views of the files and of the sink don't change
pub record FilesAndSinkStay (files files' : FilesSeen) (sink sink' : SinkSeen) : Type 0 where
  pub files_stay : files' ≡ files
  pub sink_stays : sink' ≡ sink

-- how a command that has a report ends, with the counts of faults of the files and of the sink
abbrev pub EndsWithReport : Report → FilesSeen → FilesSeen → SinkSeen → SinkSeen → Status → Type 0
EndsWithReport report files files' sink sink' result =
    IsEndingWithReport report files files' sink sink' result × KeepsFaultsIfSteady files files' × (files.faults ≤ files'.faults) × (sink.faults ≤ sink'.faults)

-- how a command with this outcome ends, by the views of the files and of the sink before and after
abbrev pub EndsWithOutcome : Outcome → FilesSeen → FilesSeen → SinkSeen → SinkSeen → Status → Type 0
EndsWithOutcome (Ok report) files files' sink sink' result = EndsWithReport report files files' sink sink' result
EndsWithOutcome (Err (stop.BadInput line)) files files' sink sink' result = EndsWithReport (text_report BadInput line.items) files files' sink sink' result
EndsWithOutcome (Err stop.Unread) files files' sink sink' result = FilesAndSinkStay files files' sink sink' × (result ≡ status.Fault)
EndsWithOutcome (Err stop.NoMemory) files files' sink sink' result = FilesAndSinkStay files files' sink sink' × (result ≡ status.NoMemory)

-- How a command has ended. A report was written and printed; or a file couldn't be read, so the
-- files aren't sure of all needed inputs; or memory ran out before anything was written or printed.
pub data HasEnded (reading : Reading) (files files' : FilesSeen) (sink sink' : SinkSeen) (result : Status) : Type 0 where
  reported : (report : Report) → ReadingSays reading files.held report → IsEndingWithReport report files files' sink sink' result → HasEnded reading files files' sink sink' result
  unread :
      result ≡ Fault → files'.held ≡ files.held → sink' ≡ sink → IsFaultCounted files.faults files'.faults → (HasAllInputs reading files → ⊥)
      → HasEnded reading files files' sink sink' result
  no_memory : result ≡ NoMemory → files'.held ≡ files.held → sink' ≡ sink → HasEnded reading files files' sink sink' result

-- How a command ends, in terms of the views of the files and of the sink before and after. Whether
-- the files are steady doesn't change, and no count of faults falls. Over steady files with all
-- needed inputs, their count of faults doesn't change. Over a sink with room, its count doesn't
-- change. Over both, the status is that of the report (done, refused, or of a bad input), or out of
-- memory. Only a report with status Done has files to write, so a refused command leaves the files
-- as they are.
pub record Ends (reading : Reading) (files files' : FilesSeen) (sink sink' : SinkSeen) (result : Status) : Type 0 where
  pub ended : HasEnded reading files files' sink sink' result
  pub no_bad_words : result ≢ BadWords
  pub statuses : (report : Report) → ReadingSays reading files.held report → IsReportStatus report.status
  pub only_done : (report : Report) → ReadingSays reading files.held report → report.status ≢ Done → report.writes ≡ []
  pub stays : (result ≡ Refused) ⊎ (result ≡ BadInput) → files'.held ≡ files.held
  pub steady : files'.steady ≡ files.steady
  pub files_later : files.faults ≤ files'.faults
  pub sink_later : sink.faults ≤ sink'.faults
  pub files_sure : HasAllInputs reading files → files'.faults ≡ files.faults
  pub sink_sure : HasRoomForReports reading files.held sink → sink'.faults ≡ sink.faults
  pub complete :
      HasAllInputs reading files → HasRoomForReports reading files.held sink → (report : Report) → ReadingSays reading files.held report
      → (result ≡ report.status) ⊎ (result ≡ NoMemory)
