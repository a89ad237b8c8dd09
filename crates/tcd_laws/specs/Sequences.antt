-- Commands that are called one after another, each on the files and the sink that the one before it
-- left.
use Rattle.std.specs.Prelude.{◌≡◌, ◌≢◌, ◌-◌, ◌⊎◌, List, ◌∷◌, ◌++◌, length, Option, IsTrue, ℕ, []}
use Rattle.std.specs.List.{flat_map}
use Rattle.std.specs.Option.{option_map}
use Rattle.tcd_base.specs.Files.{FileMap, FilesSeen}
use Rattle.tcd_base.specs.Sink.{SinkSeen, sink_with_appended, HasRoomFor}
use Rattle.tcd_reading.specs.Reports.{Report, ReportFile, with_report_files}
use Rattle.tcd_reading.specs.Endings.{ReportWritingStopped, FilesAndSinkStay, Ends}
use Rattle.tcd_reading.specs.Inputs.{Reading, ReadingSays, HoldsNeededInputs}
use Rattle.tcd_reading.specs.declared.status.Status.{Status}
use Rattle.tcd_reading.specs.declared.status.Status.TheVariants.{Done, NoMemory}
use Rattle.tcd_driver.specs.Commands.{Command, reading_of}

-- ---- how they end
-- a command of a sequence that isn't done is the last that is called
pub record IsLastInSequence (c : Command) (files files' : FilesSeen) (sink sink' : SinkSeen) (result : Status) : Type 0 where
  pub ended : Ends (reading_of c) files files' sink sink' result
  pub undone : result ≢ Done

-- a command of a sequence is done, and then the rest is called on the files and the sink as they
-- are then
pub record ContinuesInSequence (c : Command) (Rest : FilesSeen → FilesSeen → SinkSeen → SinkSeen → Status → Type 0) (files files' : FilesSeen) (sink sink' : SinkSeen) (result : Status) : Type 0 where
  pub files_between : FilesSeen
  pub sink_between : SinkSeen
  pub ended : Ends (reading_of c) files files_between sink sink_between Done
  pub rest : Rest files_between files' sink_between sink' result

-- Commands are called one after another, up to the first that isn't done, as a shell's `&&` calls
-- them. Without a command nothing changes, and the status is Done.
abbrev pub EndInSequence : List Command → FilesSeen → FilesSeen → SinkSeen → SinkSeen → Status → Type 0
EndInSequence [] files files' sink sink' result = FilesAndSinkStay files files' sink sink' × (result ≡ Done)
EndInSequence (c ∷ cs) files files' sink sink' result = IsLastInSequence c files files' sink sink' result ⊎ ContinuesInSequence c (EndInSequence cs) files files' sink sink' result

-- ---- what they are to come to
-- the files hold the inputs that a command needs, and its only possible report is this one, which
-- is done
pub record ReportsSurely (reading : Reading) (held : Option FileMap) (report : Report) : Type 0 where
  pub asked : HoldsNeededInputs reading held
  pub said : ReadingSays reading held report
  pub only : (other : Report) → ReadingSays reading held other → other ≡ report
  pub done : report.status ≡ Done

-- each command surely has its report, on the files that the commands before it have written
abbrev pub ReportSurelyInSequence : List Command → Option FileMap → List Report → Type 0
ReportSurelyInSequence [] held [] = Unit {0}
ReportSurelyInSequence [] held (q ∷ qs) = ⊥
ReportSurelyInSequence (c ∷ cs) held [] = ⊥
ReportSurelyInSequence (c ∷ cs) held (q ∷ qs) = ReportsSurely (reading_of c) held q × ReportSurelyInSequence cs (with_report_files held q.writes) qs

-- all files that these reports of a sequence of commands write, one after another
abbrev pub all_sequence_files : List Report → List ReportFile
all_sequence_files reports = flat_map (λ q. q.writes) reports

-- the texts that a sequence of commands prints, one after another
abbrev pub all_report_texts : List Report → List ℕ
all_report_texts reports = flat_map (λ q. q.text) reports

-- ---- the law
-- all files and texts of these reports were written and printed, and the texts took their room in
-- the sink
pub record IsSequenceDone (reports : List Report) (files files' : FilesSeen) (sink sink' : SinkSeen) : Type 0 where
  pub held : files'.held ≡ with_report_files files.held (all_sequence_files reports)
  pub written : sink'.written ≡ sink_with_appended sink.written (all_report_texts reports)
  pub room : sink'.room ≡ option_map (λ n. n - length (all_report_texts reports)) sink.room

-- Memory ran out in one command of a sequence. Those before it wrote and printed all that they
-- report. That command printed nothing, and one of its files may hold anything.
pub record RanOutOfMemoryInSequence (reports : List Report) (files files' : FilesSeen) (sink sink' : SinkSeen) : Type 0 where
  pub before : List Report
  pub at : Report
  pub behind : List Report
  pub are : reports ≡ before ++ at ∷ behind
  pub held : (files'.held ≡ with_report_files files.held (all_sequence_files before)) ⊎ ReportWritingStopped (with_report_files files.held (all_sequence_files before)) files'.held at.writes
  pub written : sink'.written ≡ sink_with_appended sink.written (all_report_texts before)
  pub room : sink'.room ≡ option_map (λ n. n - length (all_report_texts before)) sink.room

-- A sequence of commands ends Done, with all written and printed, or out of memory. No fault of the
-- files or of the sink is counted.
pub record SequenceEndsWithoutFault (reports : List Report) (files files' : FilesSeen) (sink sink' : SinkSeen) (result : Status) : Type 0 where
  pub status : (result ≡ Done) ⊎ (result ≡ NoMemory)
  pub steady : files'.steady ≡ files.steady
  pub files_faults : files'.faults ≡ files.faults
  pub sink_faults : sink'.faults ≡ sink.faults
  pub whole : result ≡ Done → IsSequenceDone reports files files' sink sink'
  pub ran_out : result ≡ NoMemory → RanOutOfMemoryInSequence reports files files' sink sink'

-- the law that commands that surely report Done, over steady files and a sink with room for all
-- texts, end without a fault
abbrev pub SureSequencesEndWithoutFault : Type 0
SureSequencesEndWithoutFault =
    (commands : List Command) (reports : List Report) (files files' : FilesSeen) (sink sink' : SinkSeen) (result : Status)
    → IsTrue files.steady → ReportSurelyInSequence commands files.held reports → HasRoomFor sink (all_report_texts reports)
    → EndInSequence commands files files' sink sink' result → SequenceEndsWithoutFault reports files files' sink sink' result
