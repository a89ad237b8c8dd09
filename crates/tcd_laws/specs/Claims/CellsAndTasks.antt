-- What the tool claims of `cells`, `cellcert`, `tasks` and `taskcert`: claims C6 and C7, what is
-- written, and why the four refuse.
use Rattle.std.specs.Prelude.{◌≡◌, ◌≢◌, ◌<◌, ◌≤◌, ◌-◌, ◌^◌, ◌⊎◌, ℕ, List, [], ◌∷◌, ◌++◌, codes, length, All, Contains, slice_get, slice_index_or, Ok, Some}
use Rattle.std.specs.Fmt.{decimal}
use Rattle.std.specs.FinMap.{get}
use Rattle.tcd_base.specs.Files.{FileMap}
use Rattle.tcd_text.specs.HexNumbers.{hex_word}
use Rattle.tcd_text.specs.Lines.{text_lines}
use Rattle.csa_chain.specs.MemoryBytes.{word_at}
use Rattle.csa_chain.specs.SeveralChains.{sum_of_first}
use Rattle.elf_image.specs.Images.{ImageData}
use Rattle.tcd_plan.specs.PlanData.{PlanData}
use Rattle.tc_machine.specs.declared.events.Event.{Event}
use Rattle.tc_machine.specs.declared.state.Machine.{Machine}
use Rattle.tc_machine.specs.Stepping.{IsRun, run}
use Rattle.tc_machine.specs.Starting.{Starts}
use Rattle.tc_machine.specs.Safe.{AllFit, Fits, IsSafeAt}
use Rattle.depth_cert.specs.declared.keys.Key.{Key}
use Rattle.depth_cert.specs.Certs.{CertData, IsCert}
use Rattle.depth_cert.specs.Grammar.{certificate_of}
use Rattle.depth_cert.specs.Spelling.{bytes_of_cert}
use Rattle.cfg_recover.specs.RulesHoldOrFail.{Accepts}
use Rattle.value_cells.specs.declared.cells.Cell.{Cell}
use Rattle.value_cells.specs.Cells.{with_cells}
use Rattle.value_cells.specs.CellListText.{AreCellsOfText}
use Rattle.value_cells.specs.Keeping.{CertKeepsCellBounds, IsFirstRule16Fault}
use Rattle.task_chains.specs.Tasks.{TasksData}
use Rattle.task_chains.specs.TaskListText.{AreTasksOfText}
use Rattle.task_chains.specs.TaskStarts.{TasksStart}
use Rattle.task_chains.specs.SwitchRoutine.{HasRoutine, IsRoutineFault}
use Rattle.task_chains.specs.Views.{view_image_of, view_plan_of}
use Rattle.task_chains.specs.Rule17.{KeepsRule17, IsRule17Fault}
use Rattle.task_chains.specs.SafeTasks.{need_of_task}
use Rattle.task_chains.specs.SafeTasksInWords.{HasSafeTaskParts}
use Rattle.tcd_reading.specs.declared.status.Status.TheVariants.{Done, Refused}
use Rattle.tcd_driver.specs.Tool.{ToolCall}
use Rattle.tcd_laws.specs.Claims.{EachCallClaims, PrintsText, FilesStay, WritesFile, Held, HeldImage, HeldPlan, HeldCert, HeldEach, IsAcceptedWith, IsLeast, FailsFirstAt, NoneIsAccepted, RefusedAt, refused_words, refused_line}

-- ---- cells
-- Claim C6. In each run that starts as the plan says, with each cell's word in its bounds, each
-- state is safe with at most this many areas in use, and has each cell's word in its bounds.
abbrev pub CellsStayInBounds : ImageData → PlanData → List Cell → ℕ → Type 0
CellsStayInBounds image plan cells most =
    (m : Machine) (es : List Event) (e : Event) → Starts image plan m → All (λ c. (c.lo ≤ word_at m.mem c.at) × (word_at m.mem c.at ≤ c.hi)) cells
    → AllFit plan m es → Fits plan (run m es) e
    → IsSafeAt image plan most (run m es) e
    × ((c : Cell) → Contains cells c → (c.lo ≤ word_at (run m es).mem c.at) × (word_at (run m es).mem c.at ≤ c.hi))

-- the line that `cells` and `cellcert` print
abbrev pub cells_line : ℕ → PlanData → List Cell → List ℕ
cells_line most plan cells =
    codes "certified "
    ++ (decimal most ++ (codes " of " ++ (decimal (plan.areas - plan.reserve) ++ (codes " areas with " ++ (decimal (length cells) ++ (codes " cells" ++ 10 ∷ []))))))

-- the names held an executable, its plan, and cells of the plan
pub record HeldCellFiles (before : FileMap) (elf_name plan_name cells_name : List ℕ) (image : ImageData) (plan : PlanData) (cells : List Cell) : Type 0 where
  pub image_held : HeldImage before elf_name image
  pub plan_held : HeldPlan before plan_name plan
  pub cells_held : Held before cells_name (2 ^ 24) (λ bytes. AreCellsOfText plan (text_lines bytes) cells)

-- by the certificate, under the plan in which the cells are peripherals, claim C6 holds
pub record KeepsCells (image : ImageData) (plan : PlanData) (cells : List Cell) (cert : CertData) (most : ℕ) : Type 0 where
  pub accepted : IsAcceptedWith image (with_cells plan cells) cert most
  pub keeps : CertKeepsCellBounds image (with_cells plan cells) cells cert
  pub bounds : CellsStayInBounds image plan cells most

-- what `cells` claims if it is done
pub record CellsClaims (elf_name plan_name cells_name cert_name : List ℕ) (call : ToolCall) (before : FileMap) : Type 0 where
  pub image : ImageData
  pub plan : PlanData
  pub cells : List Cell
  pub cert : CertData
  pub most : ℕ
  pub files : HeldCellFiles before elf_name plan_name cells_name image plan cells
  pub cert_held : HeldCert before cert_name cert
  pub kept : KeepsCells image plan cells cert most
  pub prints : PrintsText call (cells_line most plan cells)
  pub stays : FilesStay call before

-- what `cellcert` claims if it is done: CERT holds the least such certificate of format 2
pub record CellcertClaims (elf_name plan_name cells_name cert_name : List ℕ) (call : ToolCall) (before : FileMap) : Type 0 where
  pub image : ImageData
  pub plan : PlanData
  pub cells : List Cell
  pub cert : CertData
  pub most : ℕ
  pub files : HeldCellFiles before elf_name plan_name cells_name image plan cells
  pub kept : KeepsCells image plan cells cert most
  pub version : cert.version ≡ 2
  pub least : IsLeast image (with_cells plan cells) cert
  pub reads_back : certificate_of (bytes_of_cert cert) ≡ Ok cert
  pub writes : WritesFile call before cert_name (bytes_of_cert cert)
  pub prints : PrintsText call (cells_line most plan cells)

-- why `cells` refuses: under the plan in which the cells are peripherals the certificate isn't
-- accepted, or else it breaks K16; and the place where that is first so
abbrev pub WhyCellsRefuses : ImageData → PlanData → List Cell → CertData → ℕ → Key → ℕ → Type 0
WhyCellsRefuses image plan cells cert rule frame address =
    FailsFirstAt image (with_cells plan cells) cert rule frame address
    ⊎ ((rule ≡ 16) × Accepts image (with_cells plan cells) cert × IsFirstRule16Fault image (with_cells plan cells) cells cert frame address)

-- what `cells` claims if it refuses
pub record CellsRefuses (elf_name plan_name cells_name cert_name : List ℕ) (call : ToolCall) (before : FileMap) : Type 0 where
  pub image : ImageData
  pub plan : PlanData
  pub cells : List Cell
  pub cert : CertData
  pub rule : ℕ
  pub frame : Key
  pub address : ℕ
  pub files : HeldCellFiles before elf_name plan_name cells_name image plan cells
  pub cert_held : HeldCert before cert_name cert
  pub why : WhyCellsRefuses image plan cells cert rule frame address
  pub prints : PrintsText call (refused_line rule frame address)
  pub stays : FilesStay call before

-- each accepted certificate of format 2 breaks K16, and this is the first place where the least one
-- does
pub record NoneKeepsCells (image : ImageData) (plan : PlanData) (cells : List Cell) (frame : Key) (address : ℕ) : Type 0 where
  pub none : (other : CertData) → IsCert other → other.version ≡ 2 → Accepts image (with_cells plan cells) other → CertKeepsCellBounds image (with_cells plan cells) cells other → ⊥
  pub cert : CertData
  pub version : cert.version ≡ 2
  pub accepted : Accepts image (with_cells plan cells) cert
  pub least : IsLeast image (with_cells plan cells) cert
  pub first : IsFirstRule16Fault image (with_cells plan cells) cells cert frame address

-- what `cellcert` claims if it refuses: no certificate of format 2 is accepted, or none keeps K16
pub record CellcertRefuses (elf_name plan_name cells_name : List ℕ) (call : ToolCall) (before : FileMap) : Type 0 where
  pub image : ImageData
  pub plan : PlanData
  pub cells : List Cell
  pub rule : ℕ
  pub frame : Key
  pub address : ℕ
  pub files : HeldCellFiles before elf_name plan_name cells_name image plan cells
  pub why :
      (NoneIsAccepted image (with_cells plan cells) 2 × RefusedAt image (with_cells plan cells) 2 rule frame address)
      ⊎ ((rule ≡ 16) × NoneKeepsCells image plan cells frame address)
  pub prints : PrintsText call (refused_line rule frame address)
  pub stays : FilesStay call before

-- ---- tasks
-- Claim C7. In each run from the tasks' start each state has the parts of a safe state of all
-- tasks, whatever fitting event is next, with these numbers of areas.
abbrev pub RunsHaveSafeTaskParts : ImageData → PlanData → TasksData → (ℕ → ℕ) → Type 0
RunsHaveSafeTaskParts image plan tasks needs =
    (states : ℕ → Machine) (events : ℕ → Event) (n : ℕ) (e : Event) → IsRun states events → TasksStart image plan tasks (states 0)
    → ((k : ℕ) → k < n → Fits plan (states k) (events k)) → Fits plan (states n) e
    → HasSafeTaskParts image plan tasks.switch tasks.block (length tasks.list) needs (states n) e

-- certificate u of the list
abbrev pub cert_at : List CertData → ℕ → CertData
cert_at certs u = slice_index_or certs u (record { version = 1; nodes = [] })

-- the names held an executable, its plan, and tasks of the plan
pub record HeldTaskFiles (before : FileMap) (elf_name plan_name tasks_name : List ℕ) (image : ImageData) (plan : PlanData) (tasks : TasksData) : Type 0 where
  pub image_held : HeldImage before elf_name image
  pub plan_held : HeldPlan before plan_name plan
  pub tasks_held : Held before tasks_name (2 ^ 24) (λ bytes. AreTasksOfText plan (text_lines bytes) tasks)

-- the certificate is accepted for the view of task u, and keeps K17 there
pub record KeepsTaskApart (image : ImageData) (plan : PlanData) (tasks : TasksData) (u : ℕ) (cert : CertData) : Type 0 where
  pub accepted : Accepts (view_image_of image tasks u) (view_plan_of plan tasks u) cert
  pub apart : KeepsRule17 (view_image_of image tasks u) (view_plan_of plan tasks u) tasks cert

-- the certificate is the least of format 2 for the view of task u, and its bytes read back as it
pub record IsLeastOfTask (image : ImageData) (plan : PlanData) (tasks : TasksData) (u : ℕ) (cert : CertData) : Type 0 where
  pub version : cert.version ≡ 2
  pub least : IsLeast (view_image_of image tasks u) (view_plan_of plan tasks u) cert
  pub reads_back : certificate_of (bytes_of_cert cert) ≡ Ok cert

-- the switch routine is there, each task has its certificate, their needs are together at most the
-- areas without the reserve, and claim C7 holds
pub record KeepTasksSafe (image : ImageData) (plan : PlanData) (tasks : TasksData) (certs : List CertData) (needs : ℕ → ℕ) : Type 0 where
  pub as_many : length certs ≡ length tasks.list
  pub routine : HasRoutine image plan tasks
  pub each : (u : ℕ) → u < length tasks.list → KeepsTaskApart image plan tasks u (cert_at certs u)
  pub needs_are : (u : ℕ) → needs u ≡ need_of_task image plan tasks (cert_at certs) u
  pub enough : sum_of_first (length tasks.list) needs ≤ plan.areas - plan.reserve
  pub runs : RunsHaveSafeTaskParts image plan tasks needs

-- the line that `tasks` and `taskcert` print if they are done
abbrev pub tasks_line : (ℕ → ℕ) → PlanData → TasksData → List ℕ
tasks_line needs plan tasks =
    codes "certified "
    ++ (decimal (sum_of_first (length tasks.list) needs)
    ++ (codes " of " ++ (decimal (plan.areas - plan.reserve) ++ (codes " areas in " ++ (decimal (length tasks.list) ++ (codes " tasks" ++ 10 ∷ []))))))

-- what `tasks` claims if it is done
pub record TasksClaims (elf_name plan_name tasks_name : List ℕ) (cert_names : List (List ℕ)) (call : ToolCall) (before : FileMap) : Type 0 where
  pub image : ImageData
  pub plan : PlanData
  pub tasks : TasksData
  pub certs : List CertData
  pub needs : ℕ → ℕ
  pub files : HeldTaskFiles before elf_name plan_name tasks_name image plan tasks
  pub certs_held : HeldEach before (2 ^ 30) (λ bytes cert. certificate_of bytes ≡ Ok cert) cert_names certs
  pub safe : KeepTasksSafe image plan tasks certs needs
  pub prints : PrintsText call (tasks_line needs plan tasks)
  pub stays : FilesStay call before

-- after the call each of the names holds the bytes of the certificate at its place, and each name
-- that isn't among them what it held
pub record WritesCerts (call : ToolCall) (before : FileMap) (names : List (List ℕ)) (certs : List CertData) : Type 0 where
  pub after : FileMap
  pub held : (call.files_after).held ≡ Some after
  pub as_many : length names ≡ length certs
  pub written :
      (place : ℕ) (name : List ℕ) (cert : CertData) → slice_get names place ≡ Some name → slice_get certs place ≡ Some cert
      → get after name ≡ Some (bytes_of_cert cert)
  pub others : (other : List ℕ) → All (λ name. other ≢ name) names → get after other ≡ get before other

-- what `taskcert` claims if it is done
pub record TaskcertClaims (elf_name plan_name tasks_name : List ℕ) (cert_names : List (List ℕ)) (call : ToolCall) (before : FileMap) : Type 0 where
  pub image : ImageData
  pub plan : PlanData
  pub tasks : TasksData
  pub certs : List CertData
  pub needs : ℕ → ℕ
  pub files : HeldTaskFiles before elf_name plan_name tasks_name image plan tasks
  pub safe : KeepTasksSafe image plan tasks certs needs
  pub least : (u : ℕ) → u < length tasks.list → IsLeastOfTask image plan tasks u (cert_at certs u)
  pub writes : WritesCerts call before cert_names certs
  pub prints : PrintsText call (tasks_line needs plan tasks)

-- task u is the first whose certificate is refused: it isn't accepted for the task's view, or else
-- breaks K17 there; and the place where that is first so
pub record RefusesTask (image : ImageData) (plan : PlanData) (tasks : TasksData) (certs : List CertData) (u rule : ℕ) (frame : Key) (address : ℕ) : Type 0 where
  pub one : u < length tasks.list
  pub earlier : (w : ℕ) → w < u → KeepsTaskApart image plan tasks w (cert_at certs w)
  pub fails :
      FailsFirstAt (view_image_of image tasks u) (view_plan_of plan tasks u) (cert_at certs u) rule frame address
      ⊎ ((rule ≡ 17) × Accepts (view_image_of image tasks u) (view_plan_of plan tasks u) (cert_at certs u)
      × IsRule17Fault (view_image_of image tasks u) (view_plan_of plan tasks u) tasks (cert_at certs u) frame address)

-- why no certificate is made for a task's view: none of format 2 is accepted; or each accepted one
-- breaks K17, and this is the first place where the least one does
pub data LacksCert (view : ImageData) (plan : PlanData) (tasks : TasksData) : ℕ → Key → ℕ → Type 0 where
  none : (rule : ℕ) (frame : Key) (address : ℕ) → NoneIsAccepted view plan 2 → RefusedAt view plan 2 rule frame address → LacksCert view plan tasks rule frame address
  none_apart :
      (cert : CertData) (frame : Key) (address : ℕ)
      → ((other : CertData) → IsCert other → other.version ≡ 2 → Accepts view plan other → KeepsRule17 view plan tasks other → ⊥)
      → cert.version ≡ 2 → Accepts view plan cert → IsLeast view plan cert → IsRule17Fault view plan tasks cert frame address
      → LacksCert view plan tasks 17 frame address

-- task u is the first for which no certificate is made
pub record MakesNoneForTask (image : ImageData) (plan : PlanData) (tasks : TasksData) (u rule : ℕ) (frame : Key) (address : ℕ) : Type 0 where
  pub one : u < length tasks.list
  pub earlier : (w : ℕ) → w < u → (cert : CertData) × KeepsTaskApart image plan tasks w cert × IsLeastOfTask image plan tasks w cert
  pub lacks : LacksCert (view_image_of image tasks u) (view_plan_of plan tasks u) tasks rule frame address

-- why tasks are refused, and the line: the switch routine isn't there; else one task is at fault;
-- else the needs of such certificates are together above the areas without the reserve
pub data WhyTasksAreRefused (image : ImageData) (plan : PlanData) (tasks : TasksData) (IsAtFault : ℕ → ℕ → Key → ℕ → Type 0) (AreGood : List CertData → Type 0)
    (line : List ℕ) : Type 0 where
  no_switch :
      (address : ℕ) → IsRoutineFault image plan tasks address → line ≡ codes "refused switch at " ++ (hex_word address ++ 10 ∷ [])
      → WhyTasksAreRefused image plan tasks IsAtFault AreGood line
  by_task :
      (u rule : ℕ) (frame : Key) (address : ℕ) → HasRoutine image plan tasks → IsAtFault u rule frame address
      → line ≡ refused_words rule frame address ++ (codes " of task " ++ (decimal u ++ 10 ∷ []))
      → WhyTasksAreRefused image plan tasks IsAtFault AreGood line
  by_sum :
      (certs : List CertData) (sum : ℕ) → HasRoutine image plan tasks → AreGood certs
      → sum ≡ sum_of_first (length tasks.list) (need_of_task image plan tasks (cert_at certs)) → plan.areas - plan.reserve < sum
      → line ≡ codes "refused sum " ++ (decimal sum ++ (codes " of " ++ (decimal (plan.areas - plan.reserve) ++ (codes " areas" ++ 10 ∷ []))))
      → WhyTasksAreRefused image plan tasks IsAtFault AreGood line

-- why `tasks` refuses, and the line: the certificates are those that were read
abbrev pub WhyTasksRefuses : ImageData → PlanData → TasksData → List CertData → List ℕ → Type 0
WhyTasksRefuses image plan tasks certs line =
    WhyTasksAreRefused image plan tasks (RefusesTask image plan tasks certs)
    (λ these. (these ≡ certs) × ((u : ℕ) → u < length tasks.list → KeepsTaskApart image plan tasks u (cert_at certs u))) line

-- why `taskcert` refuses, and the line: the certificates are the least ones
abbrev pub WhyTaskcertRefuses : ImageData → PlanData → TasksData → List ℕ → Type 0
WhyTaskcertRefuses image plan tasks line =
    WhyTasksAreRefused image plan tasks (MakesNoneForTask image plan tasks)
    (λ certs. (u : ℕ) → u < length tasks.list → KeepsTaskApart image plan tasks u (cert_at certs u) × IsLeastOfTask image plan tasks u (cert_at certs u)) line

-- what `tasks` claims if it refuses
pub record TasksRefuses (elf_name plan_name tasks_name : List ℕ) (cert_names : List (List ℕ)) (call : ToolCall) (before : FileMap) : Type 0 where
  pub image : ImageData
  pub plan : PlanData
  pub tasks : TasksData
  pub certs : List CertData
  pub line : List ℕ
  pub files : HeldTaskFiles before elf_name plan_name tasks_name image plan tasks
  pub certs_held : HeldEach before (2 ^ 30) (λ bytes cert. certificate_of bytes ≡ Ok cert) cert_names certs
  pub as_many : length certs ≡ length tasks.list
  pub why : WhyTasksRefuses image plan tasks certs line
  pub prints : PrintsText call line
  pub stays : FilesStay call before

-- what `taskcert` claims if it refuses
pub record TaskcertRefuses (elf_name plan_name tasks_name : List ℕ) (cert_names : List (List ℕ)) (call : ToolCall) (before : FileMap) : Type 0 where
  pub image : ImageData
  pub plan : PlanData
  pub tasks : TasksData
  pub line : List ℕ
  pub files : HeldTaskFiles before elf_name plan_name tasks_name image plan tasks
  pub as_many : length cert_names ≡ length tasks.list
  pub why : WhyTaskcertRefuses image plan tasks line
  pub prints : PrintsText call line
  pub stays : FilesStay call before

-- ---- the laws, from what the tool promises
abbrev pub CellsClaimsHold : Type 0
CellsClaimsHold =
    (elf plan list cert : List ℕ) → EachCallClaims (codes "cells" ∷ elf ∷ plan ∷ list ∷ cert ∷ []) Done (CellsClaims elf plan list cert)

abbrev pub CellsRefusalsHold : Type 0
CellsRefusalsHold =
    (elf plan list cert : List ℕ) → EachCallClaims (codes "cells" ∷ elf ∷ plan ∷ list ∷ cert ∷ []) Refused (CellsRefuses elf plan list cert)

abbrev pub CellcertClaimsHold : Type 0
CellcertClaimsHold =
    (elf plan list cert : List ℕ) → EachCallClaims (codes "cellcert" ∷ elf ∷ plan ∷ list ∷ cert ∷ []) Done (CellcertClaims elf plan list cert)

abbrev pub CellcertRefusalsHold : Type 0
CellcertRefusalsHold =
    (elf plan list cert : List ℕ) → EachCallClaims (codes "cellcert" ∷ elf ∷ plan ∷ list ∷ cert ∷ []) Refused (CellcertRefuses elf plan list)

abbrev pub TasksClaimsHold : Type 0
TasksClaimsHold =
    (elf plan list : List ℕ) (certs : List (List ℕ)) → EachCallClaims (codes "tasks" ∷ elf ∷ plan ∷ list ∷ certs) Done (TasksClaims elf plan list certs)

abbrev pub TasksRefusalsHold : Type 0
TasksRefusalsHold =
    (elf plan list : List ℕ) (certs : List (List ℕ)) → EachCallClaims (codes "tasks" ∷ elf ∷ plan ∷ list ∷ certs) Refused (TasksRefuses elf plan list certs)

abbrev pub TaskcertClaimsHold : Type 0
TaskcertClaimsHold =
    (elf plan list : List ℕ) (certs : List (List ℕ)) → EachCallClaims (codes "taskcert" ∷ elf ∷ plan ∷ list ∷ certs) Done (TaskcertClaims elf plan list certs)

abbrev pub TaskcertRefusalsHold : Type 0
TaskcertRefusalsHold =
    (elf plan list : List ℕ) (certs : List (List ℕ)) → EachCallClaims (codes "taskcert" ∷ elf ∷ plan ∷ list ∷ certs) Refused (TaskcertRefuses elf plan list certs)
