-- Consequences of how a command ends, in plain equations.
-- These are the statements of the guard laws: if the definition said less, a law would fail.
use Rattle.std.specs.Prelude.{◌≡◌, ◌≢◌, ◌-◌, ◌<◌, ◌≤◌, ◌⊎◌, ℕ, true, false, List, ◌∷◌, ◌++◌, length, slice_get, Some, None, []}
use Rattle.std.specs.FinMap.{get}
use Rattle.tcd_base.specs.Files.{FileMap, FilesSeen}
use Rattle.tcd_base.specs.Sink.{SinkSeen}
use Rattle.tcd_reading.specs.Reports.{ReportFile, Report}
use Rattle.tcd_reading.specs.Inputs.{Reading, ReadingSays, HoldsNeededInputs}
use Rattle.tcd_reading.specs.Endings.{Ends}
use Rattle.tcd_reading.specs.declared.status.Status.{Status}
use Rattle.tcd_reading.specs.declared.status.Status.TheVariants.{Done, Refused, BadInput, Fault, NoMemory, BadWords}
use Rattle.tcd_base.specs.FailingCalls.{IsFaultCounted}

-- ---- files and faults
-- a law of endings says this of a name: it holds the bytes of the last of these files with that
-- name or, if none has it, what it held before
pub record HoldsLastWritten (old new : FileMap) (writes : List ReportFile) (name : List ℕ) : Type 0 where
  pub last :
      (i : ℕ) (bytes : List ℕ) → slice_get writes i ≡ Some (record { name = name; bytes = bytes })
      → ((j : ℕ) (w : ReportFile) → i < j → slice_get writes j ≡ Some w → w.name ≢ name) → get new name ≡ Some bytes
  pub other : ((i : ℕ) (w : ReportFile) → slice_get writes i ≡ Some w → w.name ≢ name) → get new name ≡ get old name

-- a law of endings says this if writing a report's files failed at one of them: each other name
-- holds the last of the earlier files with that name, or what it held before
pub record WritingBreaksOff (old new : FileMap) (writes : List ReportFile) : Type 0 where
  pub front : List ReportFile
  pub at : ReportFile
  pub behind : List ReportFile
  pub are : writes ≡ front ++ at ∷ behind
  pub others : (name : List ℕ) → name ≢ at.name → HoldsLastWritten old new front name

-- a law of endings says this of the files, if a command writes none: each name holds at the end
-- what it held before
abbrev pub AllFilesStay : FileMap → FileMap → Type 0
AllFilesStay old new = (name : List ℕ) → get new name ≡ get old name

-- ---- ends
-- How a command ended. Before, the files held m and the sink held text; after, they hold m' and
-- text'.
-- - told: the report was made with its status. Its files were written in order, then its text was
--   printed.
-- - cut: the sink failed within the text. If the room of the sink is known, there was too little.
-- - unwritten, unfinished: a write failed or ran out of memory, and nothing was printed.
-- - unread: a file couldn't be read, so the files may fail or lack an input that the command needs.
-- - no_memory: memory ran out, and nothing was written.
pub data HasEndedByLaw (reading : Reading) (files files' : FilesSeen) (sink sink' : SinkSeen) (m m' : FileMap) (text text' : List ℕ) (result : Status) : Type 0 where
  told :
      (report : Report) → ReadingSays reading (Some m) report → result ≡ report.status → ((name : List ℕ) → HoldsLastWritten m m' report.writes name)
      → text' ≡ text ++ report.text
      → ((n : ℕ) → sink.room ≡ Some n → length report.text ≤ n → sink'.room ≡ Some (n - length report.text))
      → HasEndedByLaw reading files files' sink sink' m m' text text' result
  cut :
      (report : Report) → ReadingSays reading (Some m) report → result ≡ Fault → ((name : List ℕ) → HoldsLastWritten m m' report.writes name)
      → (front rest : List ℕ) → report.text ≡ front ++ rest → text' ≡ text ++ front → IsFaultCounted sink.faults sink'.faults
      → ((n : ℕ) → sink.room ≡ Some n → n < length report.text) → HasEndedByLaw reading files files' sink sink' m m' text text' result
  unwritten :
      (report : Report) → ReadingSays reading (Some m) report → result ≡ Fault → WritingBreaksOff m m' report.writes → text' ≡ text
      → IsFaultCounted files.faults files'.faults → files.steady ≡ false → HasEndedByLaw reading files files' sink sink' m m' text text' result
  unfinished :
      (report : Report) → ReadingSays reading (Some m) report → result ≡ NoMemory → WritingBreaksOff m m' report.writes → text' ≡ text
      → HasEndedByLaw reading files files' sink sink' m m' text text' result
  unread :
      result ≡ Fault → AllFilesStay m m' → text' ≡ text → IsFaultCounted files.faults files'.faults → (files.steady ≡ true → HoldsNeededInputs reading (Some m) → ⊥)
      → HasEndedByLaw reading files files' sink sink' m m' text text' result
  no_memory : result ≡ NoMemory → AllFilesStay m m' → text' ≡ text → HasEndedByLaw reading files files' sink sink' m m' text text' result

-- How a command ends by the laws of endings if files and sink reveal their contents: the files held
-- m, and the sink held text.
pub record EndsByLaw (reading : Reading) (files files' : FilesSeen) (sink sink' : SinkSeen) (m : FileMap) (text : List ℕ) (result : Status) : Type 0 where
  pub after : FileMap
  pub held : files'.held ≡ Some after
  pub printed : List ℕ
  pub written : sink'.written ≡ Some printed
  pub ended : HasEndedByLaw reading files files' sink sink' m after text printed result
  pub some_words : result ≢ BadWords
  pub statuses :
      (report : Report) → ReadingSays reading (Some m) report
      → (report.status ≡ Done) ⊎ ((report.status ≡ Refused) ⊎ (report.status ≡ BadInput))
  pub only_done : (report : Report) → ReadingSays reading (Some m) report → report.status ≢ Done → report.writes ≡ []
  pub stays : (result ≡ Refused) ⊎ (result ≡ BadInput) → AllFilesStay m after
  pub steady : files'.steady ≡ files.steady
  pub files_sure : files.steady ≡ true → HoldsNeededInputs reading (Some m) → files'.faults ≡ files.faults
  pub sink_sure :
      (n : ℕ) → sink.room ≡ Some n → ((report : Report) → ReadingSays reading (Some m) report → length report.text ≤ n) → sink'.faults ≡ sink.faults
  pub complete :
      (n : ℕ) → files.steady ≡ true → HoldsNeededInputs reading (Some m) → sink.room ≡ Some n
      → ((report : Report) → ReadingSays reading (Some m) report → length report.text ≤ n)
      → (report : Report) → ReadingSays reading (Some m) report → (result ≡ report.status) ⊎ (result ≡ NoMemory)

-- How a command ends in all cases. It never ends with the status for bad words. It ends with the
-- status of its report, except after a counted fault or out of memory. Contents that aren't
-- revealed remain so, and no count of faults falls. Over steady files with all needed inputs, and a
-- sink with room, no fault is counted. The status is then that of the report, or out of memory.
pub record EndsInAllCasesByLaw (reading : Reading) (files files' : FilesSeen) (sink sink' : SinkSeen) (result : Status) : Type 0 where
  pub some_words : result ≢ BadWords
  pub statuses :
      (report : Report) → ReadingSays reading files.held report
      → (report.status ≡ Done) ⊎ ((report.status ≡ Refused) ⊎ (report.status ≡ BadInput))
  pub status : result ≢ Fault → result ≢ NoMemory → (report : Report) × ReadingSays reading files.held report × (result ≡ report.status)
  pub fault :
      result ≡ Fault
      → IsFaultCounted files.faults files'.faults ⊎ IsFaultCounted sink.faults sink'.faults
  pub untold : files.held ≡ None → files'.held ≡ None
  pub unseen : sink.written ≡ None → sink'.written ≡ None
  pub only_done : (report : Report) → ReadingSays reading files.held report → report.status ≢ Done → report.writes ≡ []
  pub stays : (result ≡ Refused) ⊎ (result ≡ BadInput) → files'.held ≡ files.held
  pub steady : files'.steady ≡ files.steady
  pub files_later : files.faults ≤ files'.faults
  pub sink_later : sink.faults ≤ sink'.faults
  pub files_sure : files.steady ≡ true → HoldsNeededInputs reading files.held → files'.faults ≡ files.faults
  pub sink_sure :
      (n : ℕ) → sink.room ≡ Some n → ((report : Report) → ReadingSays reading files.held report → length report.text ≤ n) → sink'.faults ≡ sink.faults
  pub complete :
      (n : ℕ) → files.steady ≡ true → HoldsNeededInputs reading files.held → sink.room ≡ Some n
      → ((report : Report) → ReadingSays reading files.held report → length report.text ≤ n)
      → (report : Report) → ReadingSays reading files.held report → (result ≡ report.status) ⊎ (result ≡ NoMemory)

-- guard law of a command that ends, if files and sink reveal their contents: it ends so
abbrev pub EndingLaw : Reading → Type 0
EndingLaw reading =
    (files files' : FilesSeen) (sink sink' : SinkSeen) (result : Status) (m : FileMap) (text : List ℕ)
    → files.held ≡ Some m → sink.written ≡ Some text → Ends reading files files' sink sink' result
    → EndsByLaw reading files files' sink sink' m text result

-- guard law of a command that ends, whether or not files and sink reveal their contents: it ends so
abbrev pub EndingLawInAllCases : Reading → Type 0
EndingLawInAllCases reading =
    (files files' : FilesSeen) (sink sink' : SinkSeen) (result : Status)
    → Ends reading files files' sink sink' result → EndsInAllCasesByLaw reading files files' sink sink' result
