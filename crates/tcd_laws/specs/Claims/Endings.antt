-- How calls end: with status 2 on input that is bad, with status 5 on arguments that are no
-- command, and with which status if nothing can fail.
use Rattle.std.specs.Prelude.{◌≡◌, ◌≢◌, ◌<◌, ◌≤◌, ◌-◌, ◌^◌, ◌⊎◌, ℕ, true, List, [], ◌∷◌, ◌++◌, codes, length, map, slice_get, IsSome, Some, Ok, Err}
use Rattle.std.specs.Fmt.{decimal}
use Rattle.std.specs.FinMap.{get}
use Rattle.tcd_base.specs.Files.{FileMap, FilesSeen}
use Rattle.tcd_base.specs.Sink.{SinkSeen}
use Rattle.tcd_base.specs.declared.errors.FormErr.{FormErr}
use Rattle.tcd_text.specs.Lines.{text_lines}
use Rattle.elf_image.specs.Images.{ImageData}
use Rattle.elf_image.specs.ReadElf.{image_of_file}
use Rattle.elf_image.specs.declared.errors.ImageErr.{ImageErr}
use Rattle.tcd_plan.specs.PlanData.{PlanData}
use Rattle.tcd_plan.specs.PlanReader.{IsPlanResult}
use Rattle.tcd_plan.specs.declared.plans.PlanErr.{PlanErr}
use Rattle.tcd_plan.specs.declared.plans.PlanErr.TheVariants as plan_err
use Rattle.depth_cert.specs.Certs.{CertData}
use Rattle.depth_cert.specs.Grammar.{certificate_of}
use Rattle.tc_script.specs.ScriptData.{ScriptData}
use Rattle.tc_script.specs.ScriptText.{script_of}
use Rattle.tc_script.specs.declared.errors.ScriptErr.{ScriptErr}
use Rattle.tc_stmt.specs.Lines.{lines_in}
use Rattle.tc_asm.specs.DraftedSources.{draft_in}
use Rattle.tc_asm.specs.Objects.{object_of_draft}
use Rattle.tc_asm.specs.Rules.{AllLinesKeepRules, IsFirstBadLine}
use Rattle.tc_object.specs.Objects.{ObjectData}
use Rattle.tc_object.specs.Grammar.{object_of}
use Rattle.tc_link.specs.Layouts.{LayoutData}
use Rattle.tc_link.specs.LayoutFaults.{layout_of}
use Rattle.tc_link.specs.declared.layout_errors.LayoutErr.{LayoutErr}
use Rattle.tc_link.specs.Linked.{image_of_objects}
use Rattle.tc_link.specs.Refusals.{Refusal}
use Rattle.value_cells.specs.declared.cells.Cell.{Cell}
use Rattle.value_cells.specs.declared.errors.CellsErr.{CellsErr}
use Rattle.value_cells.specs.CellListText.{AreCellsOfText, IsErrOfCellText}
use Rattle.task_chains.specs.Tasks.{TasksData}
use Rattle.task_chains.specs.declared.task_lists.TasksErr.{TasksErr}
use Rattle.task_chains.specs.TaskListText.{AreTasksOfText, IsErrOfTaskText}
use Rattle.tcd_forms.specs.Forms.{SourceData}
use Rattle.tcd_forms.specs.Lines.{bad_elf_line, bad_plan_line, bad_script_line, bad_layout_line, bad_link_line}
use Rattle.tcd_reading.specs.declared.status.Status.{Status}
use Rattle.tcd_reading.specs.declared.status.Status.TheVariants.{Done, Refused, BadInput, Fault, NoMemory, BadWords}
use Rattle.tcd_driver.specs.BadInputLines.{bad_cells_line, bad_tasks_line}
use Rattle.tcd_driver.specs.Headlines.{HeadlineOfCheck, RefusalByCheck, HeadlineOfCert, RefusalByCert, HeadlineOfRun}
use Rattle.tcd_driver.specs.Headlines.Asks.{InputRequirement, is_elf, is_plan, is_cert, is_layout, is_object, is_source, is_script, are_cells, are_tasks, are_linked, are_linked_sources, is_cert_per_task, require_each, BadInputOf}
use Rattle.tcd_driver.specs.Headlines.Builds.{HeadlineOfShip, RefusalByShip, HeadlineOfAsm, HeadlineOfLink}
use Rattle.tcd_driver.specs.Headlines.Reports.{RefusalByGen, HeadlineOfCfg, HeadlineOfReport, HeadlineOfDis, HeadlineOfGen}
use Rattle.tcd_driver.specs.Headlines.Boots.{HeadlineOfBoot, RefusalByBoot, HeadlineOfBootgen}
use Rattle.tcd_driver.specs.Headlines.Cells.{HeadlineOfCells, RefusalByCells, HeadlineOfCellcert, RefusalByCellcert}
use Rattle.tcd_driver.specs.Headlines.Tasks.{HeadlineOfTasks, RefusalByTasks, HeadlineOfTaskcert, RefusalByTaskcert}
use Rattle.tcd_driver.specs.Tool.{ToolCall, ToolSays, EndsWithBadWords}
use Rattle.tcd_laws.specs.Claims.{PrintsText, FilesStay, Held, HeldImage, HeldPlan, HeldCert, HeldEach}
use Rattle.tcd_laws.specs.Claims.Making.{IsAssembled}

-- ---- what a command asks of its input
-- the name held the text of this layout, these cells or these tasks
abbrev pub HeldLayout : FileMap → List ℕ → LayoutData → Type 0
HeldLayout before name layout = Held before name (2 ^ 24) (λ bytes. layout_of bytes ≡ Ok layout)

abbrev pub HeldCells : FileMap → List ℕ → PlanData → List Cell → Type 0
HeldCells before name plan cells = Held before name (2 ^ 24) (λ bytes. AreCellsOfText plan (text_lines bytes) cells)

abbrev pub HeldTasks : FileMap → List ℕ → PlanData → TasksData → Type 0
HeldTasks before name plan tasks = Held before name (2 ^ 24) (λ bytes. AreTasksOfText plan (text_lines bytes) tasks)

-- the name held the text of a source that breaks no rule
abbrev pub HeldSource : FileMap → List ℕ → Type 0
HeldSource before name =
    (object : ObjectData) × Held before name (2 ^ 24) (λ bytes. AllLinesKeepRules (lines_in bytes) × (object ≡ object_of_draft (draft_in bytes)))

-- the files meet this requirement of a command
abbrev pub IsMet : FileMap → InputRequirement → Type 0
IsMet before (is_elf name) = (image : ImageData) × HeldImage before name image
IsMet before (is_plan name) = (plan : PlanData) × HeldPlan before name plan
IsMet before (is_cert name) = (cert : CertData) × HeldCert before name cert
IsMet before (is_layout name) = (layout : LayoutData) × HeldLayout before name layout
IsMet before (is_object place name) = (object : ObjectData) × Held before name (2 ^ 24) (λ bytes. object_of bytes ≡ Ok object)
IsMet before (is_source place name) = HeldSource before name
IsMet before (is_script plan_name name) =
    (plan : PlanData) × (script : ScriptData) × HeldPlan before plan_name plan × Held before name (2 ^ 24) (λ bytes. script_of plan bytes ≡ Ok script)
IsMet before (are_cells plan_name name) = (plan : PlanData) × (cells : List Cell) × HeldPlan before plan_name plan × HeldCells before name plan cells
IsMet before (are_tasks plan_name name) = (plan : PlanData) × (tasks : TasksData) × HeldPlan before plan_name plan × HeldTasks before name plan tasks
IsMet before (are_linked layout_name names) =
    (layout : LayoutData) × (objects : List ObjectData) × (image : ImageData) × HeldLayout before layout_name layout
    × HeldEach before (2 ^ 24) (λ bytes object. object_of bytes ≡ Ok object) names objects × (image_of_objects objects layout ≡ Ok image)
IsMet before (are_linked_sources layout_name names) =
    (layout : LayoutData) × (sources : List SourceData) × (image : ImageData) × HeldLayout before layout_name layout
    × HeldEach before (2 ^ 24) IsAssembled names sources × (image_of_objects (map (λ s. s.object) sources) layout ≡ Ok image)
IsMet before (is_cert_per_task plan_name tasks_name names) =
    (plan : PlanData) × (tasks : TasksData) × HeldPlan before plan_name plan × HeldTasks before tasks_name plan tasks × (length names ≡ length tasks.list)

-- the name held more bytes than `most`, and the line says that; or it held fewer with this fault
abbrev pub IsUnfit : FileMap → List ℕ → ℕ → List ℕ → List ℕ → (List ℕ → Type 0) → Type 0
IsUnfit before name most long line HasFault =
    (bytes : List ℕ) × (get before name ≡ Some bytes) × (((most < length bytes) × (line ≡ long ++ 10 ∷ [])) ⊎ ((length bytes ≤ most) × HasFault bytes))

-- the end of a line on a fault in a certificate or an object
abbrev pub at_words : FormErr → List ℕ → List ℕ
at_words e rest = decimal e.kind ++ (codes " at " ++ rest)

-- the files don't meet this requirement, and this line says why: the first fault of the file; that
-- objects can't be linked; or that there isn't one certificate for each task
abbrev pub IsUnmet : FileMap → InputRequirement → List ℕ → Type 0
IsUnmet before (is_elf name) line =
    IsUnfit before name (2 ^ 24) (codes "bad elf 0") line (λ bytes. (e : ImageErr) × (image_of_file bytes ≡ Err e) × (line ≡ bad_elf_line e))
IsUnmet before (is_plan name) line =
    IsUnfit before name (2 ^ 24) (codes "bad plan 0") line
    (λ bytes. (e : PlanErr) × IsPlanResult bytes (Err e) × (e ≢ plan_err.NoMemory) × (line ≡ bad_plan_line e))
IsUnmet before (is_cert name) line =
    IsUnfit before name (2 ^ 30) (codes "bad cert 0") line
    (λ bytes. (e : FormErr) × (certificate_of bytes ≡ Err e) × (line ≡ codes "bad cert " ++ at_words e (decimal e.at ++ 10 ∷ [])))
IsUnmet before (is_layout name) line =
    IsUnfit before name (2 ^ 24) (codes "bad layout 0") line (λ bytes. (e : LayoutErr) × (layout_of bytes ≡ Err e) × (line ≡ bad_layout_line e))
IsUnmet before (is_object place name) line =
    IsUnfit before name (2 ^ 24) (codes "bad object 0 at " ++ decimal place) line
    (λ bytes. (e : FormErr) × (object_of bytes ≡ Err e)
    × (line ≡ codes "bad object " ++ at_words e (decimal place ++ (codes " " ++ (decimal e.at ++ 10 ∷ [])))))
IsUnmet before (is_source place name) line =
    IsUnfit before name (2 ^ 24) (codes "bad source 0 at " ++ decimal place) line
    (λ bytes. (n : ℕ) × (rule : ℕ) × IsFirstBadLine (lines_in bytes) n rule
    × (line ≡ codes "bad source " ++ (decimal rule ++ (codes " at " ++ (decimal place ++ (codes " " ++ (decimal n ++ 10 ∷ [])))))))
IsUnmet before (is_script plan_name name) line =
    (plan : PlanData) × HeldPlan before plan_name plan
    × IsUnfit before name (2 ^ 24) (codes "bad script 0") line (λ bytes. (e : ScriptErr) × (script_of plan bytes ≡ Err e) × (line ≡ bad_script_line e))
IsUnmet before (are_cells plan_name name) line =
    (plan : PlanData) × HeldPlan before plan_name plan
    × IsUnfit before name (2 ^ 24) (codes "bad cells 0") line (λ bytes. (e : CellsErr) × IsErrOfCellText plan (text_lines bytes) e × (line ≡ bad_cells_line e))
IsUnmet before (are_tasks plan_name name) line =
    (plan : PlanData) × HeldPlan before plan_name plan
    × IsUnfit before name (2 ^ 24) (codes "bad tasks 0") line (λ bytes. (e : TasksErr) × IsErrOfTaskText plan (text_lines bytes) e × (line ≡ bad_tasks_line e))
IsUnmet before (are_linked layout_name names) line =
    (layout : LayoutData) × (objects : List ObjectData) × (why : Refusal) × HeldLayout before layout_name layout
    × HeldEach before (2 ^ 24) (λ bytes object. object_of bytes ≡ Ok object) names objects × (image_of_objects objects layout ≡ Err why) × (line ≡ bad_link_line why)
IsUnmet before (are_linked_sources layout_name names) line =
    (layout : LayoutData) × (sources : List SourceData) × (why : Refusal) × HeldLayout before layout_name layout × HeldEach before (2 ^ 24) IsAssembled names sources
    × (image_of_objects (map (λ s. s.object) sources) layout ≡ Err why) × (line ≡ bad_link_line why)
IsUnmet before (is_cert_per_task plan_name tasks_name names) line =
    (plan : PlanData) × (tasks : TasksData) × HeldPlan before plan_name plan × HeldTasks before tasks_name plan tasks × (length names ≢ length tasks.list)
    × (line ≡ codes "bad tasks 7" ++ 10 ∷ [])

-- a command finds its input bad: the line that it prints is on one of its requirements, which isn't
-- met; all before it are met, and nothing is written
pub record FindsBadInput (asks : List InputRequirement) (call : ToolCall) (before : FileMap) : Type 0 where
  pub place : ℕ
  pub ask : InputRequirement
  pub line : List ℕ
  pub one : slice_get asks place ≡ Some ask
  pub unmet : IsUnmet before ask line
  pub earlier : (i : ℕ) (other : InputRequirement) → i < place → slice_get asks i ≡ Some other → IsMet before other
  pub prints : PrintsText call line
  pub stays : FilesStay call before

-- ---- calls in which nothing can fail
-- the file that a requirement is about is there
abbrev pub IsThere : FileMap → InputRequirement → Type 0
IsThere before (is_elf name) = IsSome (get before name)
IsThere before (is_plan name) = IsSome (get before name)
IsThere before (is_cert name) = IsSome (get before name)
IsThere before (is_layout name) = IsSome (get before name)
IsThere before (is_object place name) = IsSome (get before name)
IsThere before (is_source place name) = IsSome (get before name)
IsThere before (is_script plan_name name) = IsSome (get before name)
IsThere before (are_cells plan_name name) = IsSome (get before name)
IsThere before (are_tasks plan_name name) = IsSome (get before name)
IsThere before ask = Unit {0}

-- the files don't fail, each that is asked for is there, and the sink has room for `bad words` and
-- for the text of each end
pub record NothingFails (call : ToolCall) (before : FileMap) (asks : List InputRequirement) (IfDone IfRefused IfBad : FileMap → List ℕ → Type 0) : Type 0 where
  pub steady : (call.files).steady ≡ true
  pub there : (place : ℕ) (ask : InputRequirement) → slice_get asks place ≡ Some ask → IsThere before ask
  pub room : ℕ
  pub room_is : (call.sink).room ≡ Some room
  pub bad_words : 10 ≤ room
  pub done : (after : FileMap) (text : List ℕ) → IfDone after text → length text ≤ room
  pub refused : (after : FileMap) (text : List ℕ) → IfRefused after text → length text ≤ room
  pub bad_input : (after : FileMap) (text : List ℕ) → IfBad after text → length text ≤ room

-- The status is one of three. It follows from what the call can end with, and of its three ends no
-- two can be.
pub record StatusFollows (status : Status) (IfDone IfRefused IfBad : FileMap → List ℕ → Type 0) : Type 0 where
  pub one : (status ≡ Done) ⊎ ((status ≡ Refused) ⊎ (status ≡ BadInput))
  pub done : (after : FileMap) (text : List ℕ) → IfDone after text → status ≡ Done
  pub refused : (after : FileMap) (text : List ℕ) → IfRefused after text → status ≡ Refused
  pub bad_input : (after : FileMap) (text : List ℕ) → IfBad after text → status ≡ BadInput
  pub if_done : status ≡ Done → (after : FileMap) × (text : List ℕ) × IfDone after text
  pub if_refused : status ≡ Refused → (after : FileMap) × (text : List ℕ) × IfRefused after text
  pub if_bad_input : status ≡ BadInput → (after : FileMap) × (text : List ℕ) × IfBad after text
  pub not_refused : (a b : FileMap) (s t : List ℕ) → IfDone a s → IfRefused b t → ⊥
  pub not_done : (a b : FileMap) (s t : List ℕ) → IfDone a s → IfBad b t → ⊥
  pub not_both : (a b : FileMap) (s t : List ℕ) → IfRefused a s → IfBad b t → ⊥

-- how a command ends on these files: on bad input; and if nothing can fail, memory doesn't run out
-- and the words are the command's
pub record CommandEnds (call : ToolCall) (before : FileMap) (asks : List InputRequirement) (IfDone IfRefused : FileMap → List ℕ → Type 0) : Type 0 where
  pub bad_input : call.status ≡ BadInput → FindsBadInput asks call before
  pub decided :
      NothingFails call before asks IfDone IfRefused (BadInputOf asks before) → call.status ≢ NoMemory → call.status ≢ BadWords
      → StatusFollows call.status IfDone IfRefused (BadInputOf asks before)

-- no files and no text are the end of a command that refuses nothing
abbrev pub Never : FileMap → List ℕ → Type 0
Never after text = ⊥

-- each command with what it asks of its input, in this order, and its ends
pub record EachCommandEnds (call : ToolCall) (before : FileMap) : Type 0 where
  pub check :
      (elf plan cert : List ℕ) → call.words ≡ codes "check" ∷ elf ∷ plan ∷ cert ∷ []
      → CommandEnds call before (is_elf elf ∷ is_plan plan ∷ is_cert cert ∷ []) (HeadlineOfCheck elf plan cert before) (RefusalByCheck elf plan cert before)
  pub cert :
      (elf plan cert : List ℕ) → call.words ≡ codes "cert" ∷ elf ∷ plan ∷ cert ∷ []
      → CommandEnds call before (is_elf elf ∷ is_plan plan ∷ []) (HeadlineOfCert elf plan cert before) (RefusalByCert elf plan before)
  pub ship :
      (plan layout elf cert : List ℕ) (sources : List (List ℕ)) → call.words ≡ codes "ship" ∷ plan ∷ layout ∷ elf ∷ cert ∷ sources
      → CommandEnds call before (is_plan plan ∷ is_layout layout ∷ require_each is_source 0 sources (are_linked_sources layout sources ∷ []))
      (HeadlineOfShip plan layout elf cert sources before) (RefusalByShip plan layout sources before)
  pub run :
      (elf plan script : List ℕ) → call.words ≡ codes "run" ∷ elf ∷ plan ∷ script ∷ []
      → CommandEnds call before (is_elf elf ∷ is_plan plan ∷ is_script plan script ∷ []) (HeadlineOfRun elf plan script before) Never
  pub report :
      (elf plan cert : List ℕ) → call.words ≡ codes "report" ∷ elf ∷ plan ∷ cert ∷ []
      → CommandEnds call before (is_elf elf ∷ is_plan plan ∷ is_cert cert ∷ []) (HeadlineOfReport elf plan cert before) (RefusalByCheck elf plan cert before)
  pub cfg :
      (elf plan : List ℕ) → call.words ≡ codes "cfg" ∷ elf ∷ plan ∷ []
      → CommandEnds call before (is_elf elf ∷ is_plan plan ∷ []) (HeadlineOfCfg elf plan before) (RefusalByCert elf plan before)
  pub dis : (elf : List ℕ) → call.words ≡ codes "dis" ∷ elf ∷ [] → CommandEnds call before (is_elf elf ∷ []) (HeadlineOfDis elf before) Never
  pub gen : (word : List ℕ) → call.words ≡ codes "gen" ∷ word ∷ [] → CommandEnds call before [] (HeadlineOfGen word before) (RefusalByGen word before)
  pub asm :
      (source object : List ℕ) → call.words ≡ codes "asm" ∷ source ∷ object ∷ []
      → CommandEnds call before (is_source 0 source ∷ []) (HeadlineOfAsm source object before) Never
  pub link :
      (layout elf : List ℕ) (objects : List (List ℕ)) → call.words ≡ codes "link" ∷ layout ∷ elf ∷ objects
      → CommandEnds call before (is_layout layout ∷ require_each is_object 0 objects (are_linked layout objects ∷ [])) (HeadlineOfLink layout elf objects before) Never
  pub boot :
      (elf plan cert at : List ℕ) → call.words ≡ codes "boot" ∷ elf ∷ plan ∷ cert ∷ at ∷ []
      → CommandEnds call before (is_elf elf ∷ is_plan plan ∷ is_cert cert ∷ []) (HeadlineOfBoot elf plan cert at before) (RefusalByBoot elf plan cert at before)
  pub bootgen :
      (plan entry at source : List ℕ) → call.words ≡ codes "bootgen" ∷ plan ∷ entry ∷ at ∷ source ∷ []
      → CommandEnds call before (is_plan plan ∷ []) (HeadlineOfBootgen plan entry at source before) Never
  pub cells :
      (elf plan list cert : List ℕ) → call.words ≡ codes "cells" ∷ elf ∷ plan ∷ list ∷ cert ∷ []
      → CommandEnds call before (is_elf elf ∷ is_plan plan ∷ are_cells plan list ∷ is_cert cert ∷ [])
      (HeadlineOfCells elf plan list cert before) (RefusalByCells elf plan list cert before)
  pub cellcert :
      (elf plan list cert : List ℕ) → call.words ≡ codes "cellcert" ∷ elf ∷ plan ∷ list ∷ cert ∷ []
      → CommandEnds call before (is_elf elf ∷ is_plan plan ∷ are_cells plan list ∷ []) (HeadlineOfCellcert elf plan list cert before) (RefusalByCellcert elf plan list before)
  pub tasks :
      (elf plan list : List ℕ) (certs : List (List ℕ)) → call.words ≡ codes "tasks" ∷ elf ∷ plan ∷ list ∷ certs
      → CommandEnds call before
      (is_elf elf ∷ is_plan plan ∷ are_tasks plan list ∷ is_cert_per_task plan list certs ∷ require_each (λ place name. is_cert name) 0 certs [])
      (HeadlineOfTasks elf plan list certs before) (RefusalByTasks elf plan list certs before)
  pub taskcert :
      (elf plan list : List ℕ) (certs : List (List ℕ)) → call.words ≡ codes "taskcert" ∷ elf ∷ plan ∷ list ∷ certs
      → CommandEnds call before (is_elf elf ∷ is_plan plan ∷ are_tasks plan list ∷ is_cert_per_task plan list certs ∷ [])
      (HeadlineOfTaskcert elf plan list certs before) (RefusalByTaskcert elf plan list certs before)

-- ---- arguments that are no command
-- How such a call ends. The files stay. `bad words` is printed, with its status; or the sink failed
-- within this line, which a sink with room for ten bytes doesn't, and it counted the failure.
pub record SaysBadWords (files files' : FilesSeen) (sink sink' : SinkSeen) (status : Status) : Type 0 where
  pub files_stay : files' ≡ files
  pub one : (status ≡ BadWords) ⊎ (status ≡ Fault)
  pub printed : (text : List ℕ) → status ≡ BadWords → sink.written ≡ Some text → sink'.written ≡ Some (text ++ (codes "bad words" ++ 10 ∷ []))
  pub cut :
      (text : List ℕ) → status ≡ Fault → sink.written ≡ Some text
      → (front : List ℕ) × (rest : List ℕ) × (codes "bad words" ++ 10 ∷ [] ≡ front ++ rest) × (sink'.written ≡ Some (text ++ front))
  pub counted : status ≡ Fault → (sink.faults < sink'.faults) ⊎ (sink'.faults ≡ 2 ^ 64 - 1)
  pub later : sink.faults ≤ sink'.faults
  pub sure : (room : ℕ) → sink.room ≡ Some room → 10 ≤ room → (status ≡ BadWords) × (sink'.faults ≡ sink.faults) × (sink'.room ≡ Some (room - 10))

-- ---- the laws
-- what the tool promises says how each command ends
abbrev pub CommandEndsHold : Type 0
CommandEndsHold = (call : ToolCall) (before : FileMap) → ToolSays call → (call.files).held ≡ Some before → EachCommandEnds call before

-- what the tool promises of arguments that are no command
abbrev pub BadWordsAreSaid : Type 0
BadWordsAreSaid =
    (files files' : FilesSeen) (sink sink' : SinkSeen) (status : Status) → EndsWithBadWords files files' sink sink' status
    → SaysBadWords files files' sink sink' status
