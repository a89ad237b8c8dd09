-- What a command asks of its input, and what it means that it finds it bad.
use Rattle.std.specs.Prelude.{◌≡◌, ◌≢◌, ◌+◌, ◌^◌, ◌⊎◌, ℕ, List, [], ◌∷◌, ◌++◌, codes, length, map, Ok, Err, IsSome}
use Rattle.std.specs.Fmt.{decimal}
use Rattle.std.specs.FinMap.{get}
use Rattle.elf_image.specs.Images.{ImageData}
use Rattle.tcd_plan.specs.PlanData.{PlanData}
use Rattle.tc_script.specs.ScriptData.{ScriptData}
use Rattle.tc_script.specs.ScriptText.{script_of}
use Rattle.tcd_text.specs.Lines.{text_lines}
use Rattle.depth_cert.specs.Certs.{CertData}
use Rattle.tc_object.specs.Objects.{ObjectData}
use Rattle.tc_link.specs.Layouts.{LayoutData}
use Rattle.tc_link.specs.Linked.{image_of_objects}
use Rattle.tc_link.specs.Refusals.{Refusal}
use Rattle.value_cells.specs.declared.cells.Cell.{Cell}
use Rattle.value_cells.specs.CellListText as cells
use Rattle.task_chains.specs.Tasks.{TasksData, count}
use Rattle.task_chains.specs.TaskListText as tasks
use Rattle.tcd_base.specs.Files.{FileMap}
use Rattle.tcd_forms.specs.Forms.{IsSource, SourceData}
use Rattle.tcd_forms.specs.Lines.{bad_link_line}
use Rattle.tcd_driver.specs.BadInputLines.{IsNoImage, IsNoPlan, IsNoCert, IsNoScript, IsNoLayout, IsNoObject, AreNoCells, AreNoTasks, SourceBreaksRule}
use Rattle.tcd_driver.specs.Headlines.{HoldsFile, IsBadFile, HoldsImage, HoldsPlan, HoldsCert, HoldEachFile}
use Rattle.tcd_driver.specs.Headlines.Builds.{AreObjectBytes, HoldsLayout, AreLinkFiles, IsSourceText}

-- What a command asks of its input: that a file is in its form; that objects, or those of sources,
-- are linked by a layout; that there is a certificate for each task. A turn script, cells and tasks
-- are of the plan that is named first. An object or a source has its place among those that are
-- named.
pub data InputRequirement : Type 0 where
  is_elf : (name : List ℕ) → InputRequirement
  is_plan : (name : List ℕ) → InputRequirement
  is_cert : (name : List ℕ) → InputRequirement
  is_layout : (name : List ℕ) → InputRequirement
  is_object : (place : ℕ) (name : List ℕ) → InputRequirement
  is_source : (place : ℕ) (name : List ℕ) → InputRequirement
  is_script : (plan_name name : List ℕ) → InputRequirement
  are_cells : (plan_name name : List ℕ) → InputRequirement
  are_tasks : (plan_name name : List ℕ) → InputRequirement
  are_linked : (layout_name : List ℕ) (names : List (List ℕ)) → InputRequirement
  are_linked_sources : (layout_name : List ℕ) (names : List (List ℕ)) → InputRequirement
  is_cert_per_task : (plan_name tasks_name : List ℕ) (names : List (List ℕ)) → InputRequirement

-- the requirements that `ask` makes of each of these input files, numbered from this place on, and
-- then the rest
abbrev pub require_each : (ℕ → List ℕ → InputRequirement) → ℕ → List (List ℕ) → List InputRequirement → List InputRequirement
require_each ask place [] rest = rest
require_each ask place (name ∷ names) rest = ask place name ∷ require_each ask (place + 1) names rest

-- the name holds this turn script for the plan
abbrev pub HoldsScript : FileMap → List ℕ → PlanData → ScriptData → Type 0
HoldsScript m name plan script = HoldsFile m name (2 ^ 24) (λ bytes. script_of plan bytes ≡ Ok script)

-- the name holds these cells of the plan
abbrev pub HoldsCells : FileMap → List ℕ → PlanData → List Cell → Type 0
HoldsCells m name plan list = HoldsFile m name (2 ^ 24) (λ bytes. cells.IsResultOfCellText plan bytes (Ok list))

-- the name holds these tasks of the plan
abbrev pub HoldsTasks : FileMap → List ℕ → PlanData → TasksData → Type 0
HoldsTasks m name plan list = HoldsFile m name (2 ^ 24) (λ bytes. tasks.IsResultOfTaskText plan (text_lines bytes) (Ok list))

-- the names hold this layout, and these sources with the objects that they are assembled to
abbrev pub HoldLayoutAndSources : FileMap → List ℕ → List (List ℕ) → LayoutData → List SourceData → Type 0
HoldLayoutAndSources m layout_name names layout sources = HoldsLayout m layout_name layout × HoldEachFile m (2 ^ 24) IsSourceText names sources

-- a command's input meets this requirement
abbrev pub IsGoodInput : FileMap → InputRequirement → Type 0
IsGoodInput m (is_elf name) = (image : ImageData) × HoldsImage m name image
IsGoodInput m (is_plan name) = (plan : PlanData) × HoldsPlan m name plan
IsGoodInput m (is_cert name) = (cert : CertData) × HoldsCert m name cert
IsGoodInput m (is_layout name) = (layout : LayoutData) × HoldsLayout m name layout
IsGoodInput m (is_object place name) = (object : ObjectData) × HoldsFile m name (2 ^ 24) (λ bytes. AreObjectBytes bytes object)
IsGoodInput m (is_source place name) = (object : ObjectData) × HoldsFile m name (2 ^ 24) (λ bytes. IsSource bytes object)
IsGoodInput m (is_script plan_name name) = (plan : PlanData) × (script : ScriptData) × HoldsPlan m plan_name plan × HoldsScript m name plan script
IsGoodInput m (are_cells plan_name name) = (plan : PlanData) × (list : List Cell) × HoldsPlan m plan_name plan × HoldsCells m name plan list
IsGoodInput m (are_tasks plan_name name) = (plan : PlanData) × (list : TasksData) × HoldsPlan m plan_name plan × HoldsTasks m name plan list
IsGoodInput m (are_linked layout_name names) =
    (layout : LayoutData) × (objects : List ObjectData) × (image : ImageData) × AreLinkFiles m layout_name names layout objects
    × (image_of_objects objects layout ≡ Ok image)
IsGoodInput m (are_linked_sources layout_name names) =
    (layout : LayoutData) × (sources : List SourceData) × (image : ImageData) × HoldLayoutAndSources m layout_name names layout sources
    × (image_of_objects (map (λ source. source.object) sources) layout ≡ Ok image)
IsGoodInput m (is_cert_per_task plan_name tasks_name names) =
    (plan : PlanData) × (list : TasksData) × HoldsPlan m plan_name plan × HoldsTasks m tasks_name plan list × (length names ≡ count list)

-- a command's input fails this requirement, and this line says why: a bad file, objects that can't
-- be linked, or a wrong number of certificates
abbrev pub IsBadInputWithLine : FileMap → InputRequirement → List ℕ → Type 0
IsBadInputWithLine m (is_elf name) line = IsBadFile m name (2 ^ 24) (codes "bad elf 0" ++ 10 ∷ []) IsNoImage line
IsBadInputWithLine m (is_plan name) line = IsBadFile m name (2 ^ 24) (codes "bad plan 0" ++ 10 ∷ []) IsNoPlan line
IsBadInputWithLine m (is_cert name) line = IsBadFile m name (2 ^ 30) (codes "bad cert 0" ++ 10 ∷ []) IsNoCert line
IsBadInputWithLine m (is_layout name) line = IsBadFile m name (2 ^ 24) (codes "bad layout 0" ++ 10 ∷ []) IsNoLayout line
IsBadInputWithLine m (is_object place name) line = IsBadFile m name (2 ^ 24) (codes "bad object 0 at " ++ (decimal place ++ 10 ∷ [])) (IsNoObject place) line
IsBadInputWithLine m (is_source place name) line = IsBadFile m name (2 ^ 24) (codes "bad source 0 at " ++ (decimal place ++ 10 ∷ [])) (SourceBreaksRule place) line
IsBadInputWithLine m (is_script plan_name name) line =
    (plan : PlanData) × HoldsPlan m plan_name plan × IsBadFile m name (2 ^ 24) (codes "bad script 0" ++ 10 ∷ []) (IsNoScript plan) line
IsBadInputWithLine m (are_cells plan_name name) line =
    (plan : PlanData) × HoldsPlan m plan_name plan × IsBadFile m name (2 ^ 24) (codes "bad cells 0" ++ 10 ∷ []) (AreNoCells plan) line
IsBadInputWithLine m (are_tasks plan_name name) line =
    (plan : PlanData) × HoldsPlan m plan_name plan × IsBadFile m name (2 ^ 24) (codes "bad tasks 0" ++ 10 ∷ []) (AreNoTasks plan) line
IsBadInputWithLine m (are_linked layout_name names) line =
    (layout : LayoutData) × (objects : List ObjectData) × (why : Refusal) × AreLinkFiles m layout_name names layout objects
    × (image_of_objects objects layout ≡ Err why) × (line ≡ bad_link_line why)
IsBadInputWithLine m (are_linked_sources layout_name names) line =
    (layout : LayoutData) × (sources : List SourceData) × (why : Refusal) × HoldLayoutAndSources m layout_name names layout sources
    × (image_of_objects (map (λ source. source.object) sources) layout ≡ Err why) × (line ≡ bad_link_line why)
IsBadInputWithLine m (is_cert_per_task plan_name tasks_name names) line =
    (plan : PlanData) × (list : TasksData) × HoldsPlan m plan_name plan × HoldsTasks m tasks_name plan list × (length names ≢ count list)
    × (line ≡ codes "bad tasks 7" ++ 10 ∷ [])

-- the file that a requirement of a command is about is there
abbrev pub IsInputPresent : FileMap → InputRequirement → Type 0
IsInputPresent m (is_elf name) = IsSome (get m name)
IsInputPresent m (is_plan name) = IsSome (get m name)
IsInputPresent m (is_cert name) = IsSome (get m name)
IsInputPresent m (is_layout name) = IsSome (get m name)
IsInputPresent m (is_object place name) = IsSome (get m name)
IsInputPresent m (is_source place name) = IsSome (get m name)
IsInputPresent m (is_script plan_name name) = IsSome (get m name)
IsInputPresent m (are_cells plan_name name) = IsSome (get m name)
IsInputPresent m (are_tasks plan_name name) = IsSome (get m name)
IsInputPresent m ask = Unit {0}

-- each file that these requirements of a command are about is there
abbrev pub AreInputsPresent : FileMap → List InputRequirement → Type 0
AreInputsPresent m [] = Unit {0}
AreInputsPresent m (ask ∷ asks) = IsInputPresent m ask × AreInputsPresent m asks

-- one of a command's requirements fails, and this line says why; all before it are met
abbrev pub IsFirstBadInput : FileMap → List InputRequirement → List ℕ → Type 0
IsFirstBadInput m [] line = ⊥
IsFirstBadInput m (ask ∷ asks) line = IsBadInputWithLine m ask line ⊎ (IsGoodInput m ask × IsFirstBadInput m asks line)

-- A command finds its input bad: the printed line is on the first requirement that isn't met, and
-- each name holds what it held.
pub record BadInputOf (asks : List InputRequirement) (before after : FileMap) (printed : List ℕ) : Type 0 where
  pub first : IsFirstBadInput before asks printed
  pub stays : after ≡ before
