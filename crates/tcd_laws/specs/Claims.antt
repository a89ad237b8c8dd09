-- What the tool claims of each command, in plain equations that follow from `ToolSays` alone. Of a
-- call no more is asked than its words, its status, and that it is known what the files hold: the
-- names may be any, also equal ones, the files may fail, and the sink may have no room.
pub mod Checking
pub mod Making
pub mod Running
pub mod Building
pub mod Booting
pub mod CellsAndTasks
pub mod Endings
use Rattle.std.specs.Prelude.{◌≡◌, ◌≢◌, ◌<◌, ◌≤◌, ◌==◌, ◌+◌, ◌*◌, ◌^◌, ◌⊎◌, ℕ, List, [], ◌∷◌, ◌++◌, codes, length, find, slice_get, Ok, Some, if◌then◌else◌}
use Rattle.std.specs.Fmt.{decimal}
use Rattle.std.specs.FinMap.{get}
use Rattle.tcd_base.specs.Files.{FileMap}
use Rattle.tcd_text.specs.HexNumbers.{hex_word}
use Rattle.elf_image.specs.Images.{ImageData}
use Rattle.elf_image.specs.ReadElf.{image_of_file}
use Rattle.tcd_plan.specs.PlanData.{PlanData}
use Rattle.tcd_plan.specs.PlanReader.{GivesPlan}
use Rattle.value_domain.specs.declared.states.State.{State}
use Rattle.value_domain.specs.State.{Covers}
use Rattle.value_domain.specs.VersionLimits.{limits_for}
use Rattle.depth_cert.specs.declared.keys.Key.{Key}
use Rattle.depth_cert.specs.declared.points.Exit.{Exit}
use Rattle.depth_cert.specs.Exits.{ExitCovers}
use Rattle.depth_cert.specs.Keys.{number_of_key, is_same_key}
use Rattle.depth_cert.specs.Known.{state, leaving}
use Rattle.depth_cert.specs.Nodes.{NodeData, find_node, need_or_zero}
use Rattle.depth_cert.specs.Certs.{CertData, IsCert}
use Rattle.depth_cert.specs.Grammar.{certificate_of}
use Rattle.cfg_recover.specs.Assignments.{assignment_of_cert, point, exit}
use Rattle.cfg_recover.specs.CertRefusals.{HasRefusalReason}
use Rattle.cfg_recover.specs.RulesHoldOrFail.{Accepts, StartRuleHolds, RuleFails}
use Rattle.tc_machine.specs.declared.state.Machine.{Machine}
use Rattle.tc_machine.specs.declared.events.Event.{Event}
use Rattle.tc_machine.specs.Starting.{Starts}
use Rattle.tc_machine.specs.Safe.{Fits}
use Rattle.tc_machine.specs.Stepping.{IsRun}
use Rattle.tc_machine.specs.MachineLaws.{MeetsSafetyEquations}
use Rattle.tcd_reading.specs.declared.status.Status.{Status}
use Rattle.tcd_driver.specs.Tool.{ToolCall, ToolSays}

-- ---- calls
-- what is claimed of each call with these words and this status, if what the files hold is known
abbrev pub EachCallClaims : List (List ℕ) → Status → (ToolCall → FileMap → Type 0) → Type 0
EachCallClaims words status Claims =
    (call : ToolCall) (before : FileMap) → ToolSays call → call.words ≡ words → call.status ≡ status → (call.files).held ≡ Some before → Claims call before

-- if it is known what the sink held, it holds this text after it
abbrev pub PrintsText : ToolCall → List ℕ → Type 0
PrintsText call printed = (text : List ℕ) → (call.sink).written ≡ Some text → (call.sink_after).written ≡ Some (text ++ printed)

-- each name holds what it held before the call
abbrev pub FilesStay : ToolCall → FileMap → Type 0
FilesStay call before = (call.files_after).held ≡ Some before

-- after the call the name holds these bytes, and each other name what it held
abbrev pub WritesFile : ToolCall → FileMap → List ℕ → List ℕ → Type 0
WritesFile call before name bytes =
    (after : FileMap) × ((call.files_after).held ≡ Some after) × (get after name ≡ Some bytes)
    × ((other : List ℕ) → other ≢ name → get after other ≡ get before other)

-- ---- files that are read
-- the name held at most `most` bytes, of which this is true
abbrev pub Held : FileMap → List ℕ → ℕ → (List ℕ → Type 0) → Type 0
Held before name most Is = (bytes : List ℕ) × (get before name ≡ Some bytes) × (length bytes ≤ most) × Is bytes

-- the name held the bytes of this executable
abbrev pub HeldImage : FileMap → List ℕ → ImageData → Type 0
HeldImage before name image = Held before name (2 ^ 24) (λ bytes. image_of_file bytes ≡ Ok image)

-- the name held the text of this plan
abbrev pub HeldPlan : FileMap → List ℕ → PlanData → Type 0
HeldPlan before name plan = Held before name (2 ^ 24) (λ bytes. GivesPlan bytes (Ok plan))

-- the name held the bytes of this certificate
abbrev pub HeldCert : FileMap → List ℕ → CertData → Type 0
HeldCert before name cert = Held before name (2 ^ 30) (λ bytes. certificate_of bytes ≡ Ok cert)

-- there are as many names as values, and each name held the value at its place
abbrev pub HeldEach : {A : Type 0} → FileMap → ℕ → (List ℕ → A → Type 0) → List (List ℕ) → List A → Type 0
HeldEach {A} before most Is names values =
    (length names ≡ length values)
    × ((place : ℕ) (name : List ℕ) (value : A) → slice_get names place ≡ Some name → slice_get values place ≡ Some value → Held before name most (λ bytes. Is bytes value))

-- ---- runs
-- Claims C1 to C4. In each run that starts as the plan says, each state meets the equations of
-- safety with at most this many areas in use, whatever fitting event is next.
abbrev pub RunsMeetSafetyEquations : ImageData → PlanData → ℕ → Type 0
RunsMeetSafetyEquations image plan most =
    (states : ℕ → Machine) (events : ℕ → Event) (n : ℕ) (e : Event) → IsRun states events → Starts image plan (states 0)
    → ((k : ℕ) → k < n → Fits plan (states k) (events k)) → Fits plan (states n) e → MeetsSafetyEquations image plan most (states n) e

-- ---- certificates
-- the rules accept the certificate, and this is the need of its node of the start
pub record IsAcceptedWith (image : ImageData) (plan : PlanData) (cert : CertData) (most : ℕ) : Type 0 where
  pub accepted : Accepts image plan cert
  pub start : NodeData
  pub start_is : find_node (record { kind = 0; entry = image.entry; prio = 0; is = plan.start_is }) cert.nodes ≡ Some start
  pub need : most ≡ start.need

-- a certificate says no more than another: no frame needs more areas, and what it knows at a point,
-- or where a frame is left, the other one covers
pub record SaysNoMore (cert other : CertData) : Type 0 where
  pub needs : (frame : Key) → need_or_zero (find (λ n. is_same_key n.key frame) cert.nodes) ≤ need_or_zero (find (λ n. is_same_key n.key frame) other.nodes)
  pub points :
      (frame : Key) (address : ℕ) (s : State) → assignment_of_cert cert (point frame address) ≡ Some (state s)
      → (t : State) × (assignment_of_cert other (point frame address) ≡ Some (state t)) × Covers t s
  pub exits :
      (frame : Key) (x : Exit) → assignment_of_cert cert (exit frame) ≡ Some (leaving x)
      → (y : Exit) × (assignment_of_cert other (exit frame) ≡ Some (leaving y)) × ExitCovers y x

-- the certificate is in the limits of certificates, and no accepted one of its format says less
abbrev pub IsLeast : ImageData → PlanData → CertData → Type 0
IsLeast image plan cert = IsCert cert × ((other : CertData) → IsCert other → other.version ≡ cert.version → Accepts image plan other → SaysNoMore cert other)

-- no accepted certificate of its format has a smaller need
abbrev pub IsSmallest : ImageData → PlanData → CertData → ℕ → Type 0
IsSmallest image plan cert most = (other : CertData) (need : ℕ) → IsCert other → other.version ≡ cert.version → IsAcceptedWith image plan other need → most ≤ need

-- the rule fails at this frame and address, and no rule fails before it: K1 is the first of all,
-- and then they come by the frame's number, the address and the rule
pub record FailsFirstAt (image : ImageData) (plan : PlanData) (cert : CertData) (rule : ℕ) (frame : Key) (address : ℕ) : Type 0 where
  pub fails : RuleFails image plan cert rule frame address
  pub start : (rule ≡ 1) ⊎ StartRuleHolds image plan cert
  pub first :
      (r : ℕ) (k : Key) (p : ℕ) → RuleFails image plan cert r k p
      → (rule ≡ 1) ⊎ ((number_of_key frame * 2 ^ 32 + address) * 2 ^ 4 + rule ≤ (number_of_key k * 2 ^ 32 + p) * 2 ^ 4 + r)

-- no certificate of this format is accepted
abbrev pub NoneIsAccepted : ImageData → PlanData → ℕ → Type 0
NoneIsAccepted image plan version = (cert : CertData) → IsCert cert → cert.version ≡ version → Accepts image plan cert → ⊥

-- for this reason no certificate of the format is accepted: what is wrong at this place
abbrev pub RefusedAt : ImageData → PlanData → ℕ → ℕ → Key → ℕ → Type 0
RefusedAt image plan version rule frame address = HasRefusalReason (limits_for plan version) image plan rule frame address

-- ---- printed texts
-- a frame: its kind, its entry, its priority, and whether it runs on the interrupt stack
abbrev pub frame_words : Key → List ℕ
frame_words frame =
    (if frame.kind == 0 then codes "start " else if frame.kind == 1 then codes "call "
    else if frame.kind == 2 then codes "irq " else if frame.kind == 3 then codes "sys " else codes "aln ")
    ++ (hex_word frame.entry ++ (codes " prio " ++ (decimal frame.prio ++ (codes " is " ++ ((if frame.is then 49 else 48) ∷ [])))))

-- a refusal without its end: the rule, the address and the frame
abbrev pub refused_words : ℕ → Key → ℕ → List ℕ
refused_words rule frame address = codes "refused K" ++ (decimal rule ++ (codes " at " ++ (hex_word address ++ (codes " in " ++ frame_words frame))))

-- the line of a refusal
abbrev pub refused_line : ℕ → Key → ℕ → List ℕ
refused_line rule frame address = refused_words rule frame address ++ 10 ∷ []

-- the line `certified N of M areas`
abbrev pub certified_line : ℕ → ℕ → List ℕ
certified_line most areas = codes "certified " ++ (decimal most ++ (codes " of " ++ (decimal areas ++ (codes " areas" ++ 10 ∷ []))))
