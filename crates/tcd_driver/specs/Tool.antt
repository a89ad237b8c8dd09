-- How a call of the tool ends: for arguments that are no command, and for each command.
use Rattle.std.specs.Prelude.{◌≡◌, ◌≢◌, ◌≤◌, ◌⊎◌, ◌↔◌, ℕ, true, length, List, [], ◌∷◌, ◌++◌, codes, Some}
use Rattle.tcd_base.specs.Files.{FileMap, FilesSeen}
use Rattle.tcd_base.specs.Sink.{SinkSeen}
use Rattle.tcd_reading.specs.Endings.{PrintsWithStatus}
use Rattle.tcd_reading.specs.declared.status.Status.{Status}
use Rattle.tcd_reading.specs.declared.status.Status.TheVariants.{Done, Refused, BadInput, NoMemory, BadWords}
use Rattle.tcd_driver.specs.BadInputLines.{bad_words_line}
use Rattle.tcd_driver.specs.Headlines.{HeadlineOfCheck, RefusalByCheck, HeadlineOfCert, RefusalByCert, HeadlineOfRun}
use Rattle.tcd_driver.specs.Headlines.Asks.{InputRequirement, is_elf, is_plan, is_cert, is_layout, is_object, is_source, is_script, are_cells, are_tasks, are_linked, are_linked_sources, is_cert_per_task, require_each, AreInputsPresent, BadInputOf}
use Rattle.tcd_driver.specs.Headlines.Builds.{HeadlineOfShip, RefusalByShip, HeadlineOfAsm, HeadlineOfLink}
use Rattle.tcd_driver.specs.Headlines.Reports.{RefusalByGen, HeadlineOfCfg, HeadlineOfReport, HeadlineOfDis, HeadlineOfGen}
use Rattle.tcd_driver.specs.Headlines.Boots.{HeadlineOfBoot, RefusalByBoot, HeadlineOfBootgen}
use Rattle.tcd_driver.specs.Headlines.Cells.{HeadlineOfCells, RefusalByCells, HeadlineOfCellcert, RefusalByCellcert}
use Rattle.tcd_driver.specs.Headlines.Tasks.{HeadlineOfTasks, RefusalByTasks, HeadlineOfTaskcert, RefusalByTaskcert}

-- How a call of the tool with arguments that are no command ends: the files stay, and `bad words`
-- is printed, or the sink failed within this text. A sink with room doesn't fail, and no count of
-- faults falls.
pub record EndsWithBadWords (files files' : FilesSeen) (sink sink' : SinkSeen) (result : Status) : Type 0 where
  pub files_stay : files' ≡ files
  pub prints : PrintsWithStatus BadWords bad_words_line sink sink' result
  pub later : sink.faults ≤ sink'.faults

-- one call of the driver's tool: its arguments, the files and the sink before and after it, and its
-- status
pub record ToolCall : Type 0 where
  pub words : List (List ℕ)
  pub files : FilesSeen
  pub files_after : FilesSeen
  pub sink : SinkSeen
  pub sink_after : SinkSeen
  pub status : Status

-- what a `ToolCall` with these arguments and this status means, if its files reveal their contents:
-- `Holds` is true of the files before and after, and of the text by which the sink grew
abbrev pub ToolCallMeans : ToolCall → List (List ℕ) → Status → (FileMap → FileMap → List ℕ → Type 0) → Type 0
ToolCallMeans call words status Holds =
    (before : FileMap) → call.words ≡ words → call.status ≡ status → (call.files).held ≡ Some before
    → (after : FileMap) × (printed : List ℕ) × ((call.files_after).held ≡ Some after)
    × ((text : List ℕ) → (call.sink).written ≡ Some text → (call.sink_after).written ≡ Some (text ++ printed)) × Holds before after printed

-- A call of whose files it is known what they hold, so that nothing can fail: they are steady and
-- hold each file of which something is asked, and the sink has room for each text that may be
-- printed.
pub record CallCannotFail (call : ToolCall) (before : FileMap) (asks : List InputRequirement) (MayPrint : List ℕ → Type 0) : Type 0 where
  pub held : (call.files).held ≡ Some before
  pub steady : (call.files).steady ≡ true
  pub there : AreInputsPresent before asks
  pub room : ℕ
  pub room_is : (call.sink).room ≡ Some room
  pub fits : (text : List ℕ) → MayPrint text → length text ≤ room

-- there are files and a printed text with which a call may end
abbrev pub CallCanEnd : (FileMap → List ℕ → Type 0) → Type 0
CallCanEnd Holds = (after : FileMap) × (printed : List ℕ) × Holds after printed

-- a call's status is Done, Refused or BadInput, and each exactly if a call can end so
pub record IsDecidedStatus (status : Status) (IfDone IfRefused IfBad : FileMap → List ℕ → Type 0) : Type 0 where
  pub one : (status ≡ Done) ⊎ ((status ≡ Refused) ⊎ (status ≡ BadInput))
  pub done : (status ≡ Done) ↔ CallCanEnd IfDone
  pub refused : (status ≡ Refused) ↔ CallCanEnd IfRefused
  pub bad_input : (status ≡ BadInput) ↔ CallCanEnd IfBad

-- a text that a call may print: `bad words`, or that of one of its three ends
pub data MayPrintText (IfDone IfRefused IfBad : FileMap → List ℕ → Type 0) (text : List ℕ) : Type 0 where
  of_bad_words : text ≡ codes "bad words" ++ 10 ∷ [] → MayPrintText IfDone IfRefused IfBad text
  when_done : (after : FileMap) → IfDone after text → MayPrintText IfDone IfRefused IfBad text
  when_refused : (after : FileMap) → IfRefused after text → MayPrintText IfDone IfRefused IfBad text
  when_bad : (after : FileMap) → IfBad after text → MayPrintText IfDone IfRefused IfBad text

-- What the tool promises of a command's arguments: what it means if its status is Done, Refused or
-- BadInput. If nothing can fail, the status is one of these, each exactly if that can hold, or
-- memory ran out, or the arguments are none of the command's.
pub record CommandSays (call : ToolCall) (words : List (List ℕ)) (asks : List InputRequirement) (IfDone IfRefused : FileMap → FileMap → List ℕ → Type 0) : Type 0 where
  pub done : ToolCallMeans call words Done IfDone
  pub refused : ToolCallMeans call words Refused IfRefused
  pub bad_input : ToolCallMeans call words BadInput (BadInputOf asks)
  pub decided :
      (before : FileMap) → call.words ≡ words → CallCannotFail call before asks (MayPrintText (IfDone before) (IfRefused before) (BadInputOf asks before))
      → call.status ≢ NoMemory → call.status ≢ BadWords → IsDecidedStatus call.status (IfDone before) (IfRefused before) (BadInputOf asks before)

-- for a command that refuses nothing: no files and no text belong to a refusal
abbrev pub NeverRefuses : FileMap → FileMap → List ℕ → Type 0
NeverRefuses before after printed = ⊥

-- What the tool promises of each command, by its arguments. `Ends`, in the clause `command` of
-- `tool`, has what is left: a fault, and running out of memory.
pub record ToolSays (call : ToolCall) : Type 0 where
  pub check :
      (elf plan cert : List ℕ)
      → CommandSays call (codes "check" ∷ elf ∷ plan ∷ cert ∷ []) (is_elf elf ∷ is_plan plan ∷ is_cert cert ∷ []) (HeadlineOfCheck elf plan cert) (RefusalByCheck elf plan cert)
  pub cert :
      (elf plan cert : List ℕ)
      → CommandSays call (codes "cert" ∷ elf ∷ plan ∷ cert ∷ []) (is_elf elf ∷ is_plan plan ∷ []) (HeadlineOfCert elf plan cert) (RefusalByCert elf plan)
  pub ship :
      (plan layout elf cert : List ℕ) (sources : List (List ℕ))
      → CommandSays call (codes "ship" ∷ plan ∷ layout ∷ elf ∷ cert ∷ sources)
      (is_plan plan ∷ is_layout layout ∷ require_each is_source 0 sources (are_linked_sources layout sources ∷ []))
      (HeadlineOfShip plan layout elf cert sources) (RefusalByShip plan layout sources)
  pub run :
      (elf plan script : List ℕ)
      → CommandSays call (codes "run" ∷ elf ∷ plan ∷ script ∷ []) (is_elf elf ∷ is_plan plan ∷ is_script plan script ∷ []) (HeadlineOfRun elf plan script) NeverRefuses
  pub report :
      (elf plan cert : List ℕ)
      → CommandSays call (codes "report" ∷ elf ∷ plan ∷ cert ∷ []) (is_elf elf ∷ is_plan plan ∷ is_cert cert ∷ []) (HeadlineOfReport elf plan cert) (RefusalByCheck elf plan cert)
  pub cfg :
      (elf plan : List ℕ) → CommandSays call (codes "cfg" ∷ elf ∷ plan ∷ []) (is_elf elf ∷ is_plan plan ∷ []) (HeadlineOfCfg elf plan) (RefusalByCert elf plan)
  pub dis : (elf : List ℕ) → CommandSays call (codes "dis" ∷ elf ∷ []) (is_elf elf ∷ []) (HeadlineOfDis elf) NeverRefuses
  pub gen : (word : List ℕ) → CommandSays call (codes "gen" ∷ word ∷ []) [] (HeadlineOfGen word) (RefusalByGen word)
  pub asm :
      (source object : List ℕ) → CommandSays call (codes "asm" ∷ source ∷ object ∷ []) (is_source 0 source ∷ []) (HeadlineOfAsm source object) NeverRefuses
  pub link :
      (layout elf : List ℕ) (objects : List (List ℕ))
      → CommandSays call (codes "link" ∷ layout ∷ elf ∷ objects) (is_layout layout ∷ require_each is_object 0 objects (are_linked layout objects ∷ []))
      (HeadlineOfLink layout elf objects) NeverRefuses
  pub boot :
      (elf plan cert at : List ℕ)
      → CommandSays call (codes "boot" ∷ elf ∷ plan ∷ cert ∷ at ∷ []) (is_elf elf ∷ is_plan plan ∷ is_cert cert ∷ []) (HeadlineOfBoot elf plan cert at) (RefusalByBoot elf plan cert at)
  pub bootgen :
      (plan entry at source : List ℕ)
      → CommandSays call (codes "bootgen" ∷ plan ∷ entry ∷ at ∷ source ∷ []) (is_plan plan ∷ []) (HeadlineOfBootgen plan entry at source) NeverRefuses
  pub cells :
      (elf plan list cert : List ℕ)
      → CommandSays call (codes "cells" ∷ elf ∷ plan ∷ list ∷ cert ∷ []) (is_elf elf ∷ is_plan plan ∷ are_cells plan list ∷ is_cert cert ∷ [])
      (HeadlineOfCells elf plan list cert) (RefusalByCells elf plan list cert)
  pub cellcert :
      (elf plan list cert : List ℕ)
      → CommandSays call (codes "cellcert" ∷ elf ∷ plan ∷ list ∷ cert ∷ []) (is_elf elf ∷ is_plan plan ∷ are_cells plan list ∷ [])
      (HeadlineOfCellcert elf plan list cert) (RefusalByCellcert elf plan list)
  pub tasks :
      (elf plan list : List ℕ) (certs : List (List ℕ))
      → CommandSays call (codes "tasks" ∷ elf ∷ plan ∷ list ∷ certs)
      (is_elf elf ∷ is_plan plan ∷ are_tasks plan list ∷ is_cert_per_task plan list certs ∷ require_each (λ place name. is_cert name) 0 certs [])
      (HeadlineOfTasks elf plan list certs) (RefusalByTasks elf plan list certs)
  pub taskcert :
      (elf plan list : List ℕ) (certs : List (List ℕ))
      → CommandSays call (codes "taskcert" ∷ elf ∷ plan ∷ list ∷ certs) (is_elf elf ∷ is_plan plan ∷ are_tasks plan list ∷ is_cert_per_task plan list certs ∷ [])
      (HeadlineOfTaskcert elf plan list certs) (RefusalByTaskcert elf plan list certs)
