-- What it means that a command is done, or refuses: one record each, complete in itself. `before`
-- maps each name that was held to its bytes, `after` each name that is held at the end. `printed`
-- is the text that the command printed.
pub mod Asks
pub mod Boots
pub mod Builds
pub mod Cells
pub mod Tasks
pub mod Reports
use Rattle.std.specs.Prelude.{◌≡◌, ◌≢◌, ◌<◌, ◌≤◌, ◌-◌, ◌^◌, ◌⊎◌, ℕ, List, ◌∷◌, ◌++◌, codes, length, Ok, Some, if◌then◌else◌, []}
use Rattle.std.specs.Fmt.{decimal}
use Rattle.std.specs.FinMap.{get}
use Rattle.elf_image.specs.Images.{ImageData}
use Rattle.elf_image.specs.ReadElf.{image_of_file}
use Rattle.tcd_plan.specs.PlanData.{PlanData}
use Rattle.tcd_plan.specs.PlanReader.{GivesPlan}
use Rattle.tc_machine.specs.declared.events.Event.{Event}
use Rattle.tc_machine.specs.declared.state.Machine.{Machine}
use Rattle.tc_machine.specs.Stepping.{run}
use Rattle.tc_machine.specs.Safe.{AllFit, Safe}
use Rattle.tc_machine.specs.Starting.{Starts, IsZeroFilledStart}
use Rattle.tc_script.specs.ScriptData.{ScriptData}
use Rattle.tc_script.specs.ScriptText.{script_of}
use Rattle.tc_script.specs.DrivenRuns.{driven_peak}
use Rattle.tc_script.specs.ScriptRuns.{script_events}
use Rattle.tcd_text.specs.HexNumbers.{hex_word}
use Rattle.depth_cert.specs.declared.keys.Key.{Key}
use Rattle.depth_cert.specs.Nodes.{NodeData, find_node}
use Rattle.depth_cert.specs.Certs.{CertData}
use Rattle.depth_cert.specs.Grammar.{certificate_of}
use Rattle.depth_cert.specs.Spelling.{bytes_of_cert}
use Rattle.cfg_recover.specs.Entries.{start_key}
use Rattle.cfg_recover.specs.RulesHoldOrFail.{Accepts, IsFirstFault}
use Rattle.tcd_base.specs.Files.{FileMap}
use Rattle.tcd_forms.specs.Lines.{run_end_text}
use Rattle.tcd_report.specs.Texts.{key_kind_letters}
use Rattle.depth_maker.specs.Answers.{IsNoCertAccepted}
use Rattle.tcd_driver.specs.BestCert.{IsLeastOfItsFormat, NoCertIsAccepted}

-- ---- files
-- what headlines say of a file that a command reads: the name was held, and its bytes are at most
-- `most` and of this form
pub record HoldsFile (m : FileMap) (name : List ℕ) (most : ℕ) (HasForm : List ℕ → Type 0) : Type 0 where
  pub bytes : List ℕ
  pub held : get m name ≡ Some bytes
  pub short : length bytes ≤ most
  pub form : HasForm bytes

-- the name holds this executable, of at most 16,777,216 bytes
abbrev pub HoldsImage : FileMap → List ℕ → ImageData → Type 0
HoldsImage m name image = HoldsFile m name (2 ^ 24) (λ bytes. image_of_file bytes ≡ Ok image)

-- the name holds this plan, of at most 16,777,216 bytes
abbrev pub HoldsPlan : FileMap → List ℕ → PlanData → Type 0
HoldsPlan m name plan = HoldsFile m name (2 ^ 24) (λ bytes. GivesPlan bytes (Ok plan))

-- the name holds this certificate, of at most 1,073,741,824 bytes
abbrev pub HoldsCert : FileMap → List ℕ → CertData → Type 0
HoldsCert m name cert = HoldsFile m name (2 ^ 30) (λ bytes. certificate_of bytes ≡ Ok cert)

-- each of these names holds at most `most` bytes, which are the value at the same place in the list
abbrev pub HoldEachFile : {A : Type 0} → FileMap → ℕ → (List ℕ → A → Type 0) → List (List ℕ) → List A → Type 0
HoldEachFile m most Is [] [] = Unit {0}
HoldEachFile m most Is [] (x ∷ xs) = ⊥
HoldEachFile m most Is (name ∷ names) [] = ⊥
HoldEachFile m most Is (name ∷ names) (x ∷ xs) = HoldsFile m name most (λ bytes. Is bytes x) × HoldEachFile m most Is names xs

-- In the headlines: the file has more than `most` bytes, or its bytes have a fault. `line` is the
-- line that says so.
pub data IsBadFile (m : FileMap) (name : List ℕ) (most : ℕ) (too_long_line : List ℕ) (HasFault : List ℕ → List ℕ → Type 0) (line : List ℕ) : Type 0 where
  too_long : (bytes : List ℕ) → get m name ≡ Some bytes → most < length bytes → line ≡ too_long_line → IsBadFile m name most too_long_line HasFault line
  faulty : HoldsFile m name most (λ bytes. HasFault bytes line) → IsBadFile m name most too_long_line HasFault line

-- what headlines say of the first two files of most commands: the names hold an executable and its
-- plan
pub record AreFirmwareFiles (before : FileMap) (elf_name plan_name : List ℕ) (image : ImageData) (plan : PlanData) : Type 0 where
  pub elf_file : HoldsImage before elf_name image
  pub plan_file : HoldsPlan before plan_name plan

-- the files in the main headline, that of `check`: the names hold an executable, its plan, and a
-- certificate
pub record AreCheckFiles (before : FileMap) (elf_name plan_name cert_name : List ℕ) (image : ImageData) (plan : PlanData) (cert : CertData) : Type 0 where
  pub elf_file : HoldsImage before elf_name image
  pub plan_file : HoldsPlan before plan_name plan
  pub cert_file : HoldsCert before cert_name cert

-- what headlines say of a command's one output file: the name holds these bytes, and each other
-- name what it held before
pub record IsOnlyFileWritten (before after : FileMap) (name bytes : List ℕ) : Type 0 where
  pub written : get after name ≡ Some bytes
  pub others : (other : List ℕ) → other ≢ name → get after other ≡ get before other

-- ---- certificates
-- what headlines of commands say of a certificate: it is accepted, and this is the need of its
-- start's node
pub record IsAcceptedWithNeed (image : ImageData) (plan : PlanData) (cert : CertData) (need : ℕ) : Type 0 where
  pub accepted : Accepts image plan cert
  pub start : NodeData
  pub start_is : find_node (start_key image plan) cert.nodes ≡ Some start
  pub need_is : need ≡ start.need

-- What headlines say of a made certificate: it is accepted, each run is safe with its need, and its
-- bytes read back as it. It is the least of its format, 2 only if each of 1 is refused.
pub record IsBestWithNeed (image : ImageData) (plan : PlanData) (cert : CertData) (need : ℕ) : Type 0 where
  pub accepted : IsAcceptedWithNeed image plan cert need
  pub safe : Safe image plan need
  pub version : (cert.version ≡ 1) ⊎ ((cert.version ≡ 2) × IsNoCertAccepted image plan 1)
  pub least : IsLeastOfItsFormat image plan cert
  pub reads : certificate_of (bytes_of_cert cert) ≡ Ok cert

-- ---- lines

-- a frame in the text of a headline: its kind, its entry, its interrupt priority, and whether it
-- runs on the interrupt stack
abbrev pub frame_text : Key → List ℕ
frame_text frame =
    key_kind_letters frame.kind ++ (hex_word frame.entry ++ (codes " prio " ++ (decimal frame.prio ++ (codes " is " ++ ((if frame.is then 49 else 48) ∷ [])))))

-- the text of a refusal in the headlines: the rule that fails, the address, and the frame
abbrev pub refused_text : ℕ → Key → ℕ → List ℕ
refused_text rule frame address = codes "refused K" ++ (decimal rule ++ (codes " at " ++ (hex_word address ++ (codes " in " ++ frame_text frame))))

-- the line of a refusal in the headlines
abbrev pub refused_line_text : ℕ → Key → ℕ → List ℕ
refused_line_text rule frame address = refused_text rule frame address ++ 10 ∷ []

-- the line in the headlines of `check`, `cert` and `ship`: the need, and the areas without the
-- reserve
abbrev pub certified_line_text : ℕ → ℕ → List ℕ
certified_line_text need areas = codes "certified " ++ (decimal need ++ (codes " of " ++ (decimal areas ++ (codes " areas" ++ 10 ∷ []))))

-- ---- check
-- The main headline: `check` is done. The certificate is accepted for the executable and the plan,
-- so that every run is safe with its need.
pub record HeadlineOfCheck (elf_name plan_name cert_name : List ℕ) (before after : FileMap) (printed : List ℕ) : Type 0 where
  pub image : ImageData
  pub plan : PlanData
  pub cert : CertData
  pub need : ℕ
  pub files : AreCheckFiles before elf_name plan_name cert_name image plan cert
  pub accepted : IsAcceptedWithNeed image plan cert need
  pub safe : Safe image plan need
  pub prints : printed ≡ certified_line_text need (plan.areas - plan.reserve)
  pub stays : after ≡ before

-- The counterpart of the main headline: `check` refuses. The certificate isn't accepted. This rule
-- fails first, in this frame at this address. `report` refuses so, too.
pub record RefusalByCheck (elf_name plan_name cert_name : List ℕ) (before after : FileMap) (printed : List ℕ) : Type 0 where
  pub image : ImageData
  pub plan : PlanData
  pub cert : CertData
  pub rule : ℕ
  pub frame : Key
  pub address : ℕ
  pub files : AreCheckFiles before elf_name plan_name cert_name image plan cert
  pub unaccepted : Accepts image plan cert → ⊥
  pub first : IsFirstFault image plan cert rule frame address
  pub prints : printed ≡ refused_line_text rule frame address
  pub stays : after ≡ before

-- ---- cert
-- the second main headline, after that of `check`: `cert` is done, and CERT now holds the best
-- certificate for the executable and the plan
pub record HeadlineOfCert (elf_name plan_name cert_name : List ℕ) (before after : FileMap) (printed : List ℕ) : Type 0 where
  pub image : ImageData
  pub plan : PlanData
  pub cert : CertData
  pub need : ℕ
  pub files : AreFirmwareFiles before elf_name plan_name image plan
  pub best : IsBestWithNeed image plan cert need
  pub writes : IsOnlyFileWritten before after cert_name (bytes_of_cert cert)
  pub prints : printed ≡ certified_line_text need (plan.areas - plan.reserve)

-- `cert` refuses: no certificate is accepted. `cfg` refuses so, too.
pub record RefusalByCert (elf_name plan_name : List ℕ) (before after : FileMap) (printed : List ℕ) : Type 0 where
  pub image : ImageData
  pub plan : PlanData
  pub rule : ℕ
  pub frame : Key
  pub address : ℕ
  pub files : AreFirmwareFiles before elf_name plan_name image plan
  pub none : NoCertIsAccepted image plan rule frame address
  pub prints : printed ≡ refused_line_text rule frame address
  pub stays : after ≡ before

-- ---- run
-- The third main headline: `run` ran the script's events from a start with 0 for all that the plan
-- leaves open. They fit the plan, so `Safe` speaks of this run. Its line has their number, the most
-- areas in use, and the end.
pub record HeadlineOfRun (elf_name plan_name script_name : List ℕ) (before after : FileMap) (printed : List ℕ) : Type 0 where
  pub image : ImageData
  pub plan : PlanData
  pub script : ScriptData
  pub start : Machine
  pub events : List Event
  pub last : Machine
  pub files : AreFirmwareFiles before elf_name plan_name image plan
  pub script_file : HoldsFile before script_name (2 ^ 24) (λ bytes. script_of plan bytes ≡ Ok script)
  pub starts : Starts image plan start
  pub in_zeros : IsZeroFilledStart image plan start
  pub events_are : events ≡ script_events plan script start
  pub fits : AllFit plan start events
  pub last_is : last ≡ run start events
  pub prints :
      printed
      ≡ codes "events " ++ (decimal (length events) ++ (codes " peak " ++ (decimal (driven_peak start events) ++ (codes " " ++ run_end_text last.end last.pc))))
  pub stays : after ≡ before
