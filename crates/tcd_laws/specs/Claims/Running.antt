-- What `run` and `dis` claim, and that the peak of a run is needed.
use Rattle.std.specs.Prelude.{◌≡◌, ◌≤◌, ◌<◌, ◌+◌, ◌^◌, ℕ, List, [], ◌∷◌, ◌++◌, codes, length, slice_index, Ok, Some, None, if◌then◌else◌}
use Rattle.std.specs.Fmt.{decimal}
use Rattle.std.specs.FinMap.{get}
use Rattle.tcd_base.specs.Files.{FileMap}
use Rattle.tcd_base.specs.Ranges.{IsInOneRange}
use Rattle.csa_chain.specs.Chain.{area_word}
use Rattle.elf_image.specs.Images.{ImageData, image_byte}
use Rattle.tcd_plan.specs.PlanData.{PlanData, IsPlan}
use Rattle.tc_disasm.specs.Listing.{listing_of}
use Rattle.tc_machine.specs.declared.state.Machine.{Machine}
use Rattle.tc_machine.specs.declared.events.Event.{Event}
use Rattle.tc_machine.specs.PlanAreas.{first_link}
use Rattle.tc_machine.specs.Starting.{Starts}
use Rattle.tc_machine.specs.Safe.{AllFit}
use Rattle.tc_machine.specs.Stepping.{run}
use Rattle.tc_script.specs.ScriptData.{ScriptData}
use Rattle.tc_script.specs.ScriptText.{script_of}
use Rattle.tc_script.specs.ScriptRuns.{script_events}
use Rattle.tc_script.specs.DrivenRuns.{driven_peak}
use Rattle.tcd_forms.specs.Lines.{run_end_text}
use Rattle.tcd_reading.specs.declared.status.Status.TheVariants.{Done}
use Rattle.tcd_driver.specs.Tool.{ToolCall}
use Rattle.tcd_laws.specs.Claims.{EachCallClaims, PrintsText, FilesStay, Held, HeldImage, HeldPlan, RunsMeetSafetyEquations}

-- ---- run
-- The start state in which all that the plan leaves open is 0: the data registers, the address
-- registers but for the globals and SP, PSW but for IO and IS, RAM, ROM that the executable leaves
-- free, and all words of the areas but the links.
pub record StartsInZeros (image : ImageData) (plan : PlanData) (m : Machine) : Type 0 where
  pub starts : Starts image plan m
  pub d : m.d ≡ 0 ∷ 0 ∷ 0 ∷ 0 ∷ 0 ∷ 0 ∷ 0 ∷ 0 ∷ 0 ∷ 0 ∷ 0 ∷ 0 ∷ 0 ∷ 0 ∷ 0 ∷ 0 ∷ []
  pub a :
      m.a ≡ slice_index plan.globals 0 ∷ slice_index plan.globals 1 ∷ 0 ∷ 0 ∷ 0 ∷ 0 ∷ 0 ∷ 0
      ∷ slice_index plan.globals 2 ∷ slice_index plan.globals 3 ∷ plan.sp ∷ 0 ∷ 0 ∷ 0 ∷ 0 ∷ 0 ∷ []
  pub psw : m.psw ≡ (if plan.start_is then 2560 else 2048)
  pub ram : (x : ℕ) → IsInOneRange x 1 plan.ram → get m.mem x ≡ Some 0
  pub rom : (x : ℕ) → IsInOneRange x 1 plan.rom → image_byte image x ≡ None → get m.mem x ≡ Some 0
  pub words : (i k : ℕ) → i < plan.areas → 0 < k → k < 16 → area_word m.mem (first_link plan + i) k ≡ 0

-- `run` is done: from this start state the script's events fit, and it prints their number, the
-- peak and the end; nothing is written. Claims C1 to C4 hold with no number below the peak: if
-- `check` certifies this number, no smaller one would do.
pub record RunClaims (elf_name plan_name script_name : List ℕ) (call : ToolCall) (before : FileMap) : Type 0 where
  pub image : ImageData
  pub plan : PlanData
  pub script : ScriptData
  pub start : Machine
  pub events : List Event
  pub last : Machine
  pub image_held : HeldImage before elf_name image
  pub plan_held : HeldPlan before plan_name plan
  pub script_held : Held before script_name (2 ^ 24) (λ bytes. script_of plan bytes ≡ Ok script)
  pub starts : Starts image plan start
  pub in_zeros : StartsInZeros image plan start
  pub scripted : events ≡ script_events plan script start
  pub fits : AllFit plan start events
  pub last_is : last ≡ run start events
  pub prints :
      PrintsText call
      (codes "events " ++ (decimal (length events) ++ (codes " peak " ++ (decimal (driven_peak start events) ++ (codes " " ++ run_end_text last.end last.pc)))))
  pub stays : FilesStay call before
  pub needed : (most : ℕ) → RunsMeetSafetyEquations image plan most → driven_peak start events ≤ most

-- ---- dis
-- `dis` is done: it prints the listing of the executable, and nothing is written
pub record DisClaims (elf_name : List ℕ) (call : ToolCall) (before : FileMap) : Type 0 where
  pub image : ImageData
  pub image_held : HeldImage before elf_name image
  pub prints : PrintsText call (listing_of image)
  pub stays : FilesStay call before

-- ---- the laws
-- what each `run` with status 0 says
abbrev pub RunClaimsHold : Type 0
RunClaimsHold = (elf plan script : List ℕ) → EachCallClaims (codes "run" ∷ elf ∷ plan ∷ script ∷ []) Done (RunClaims elf plan script)

-- what each `dis` with status 0 says
abbrev pub DisClaimsHold : Type 0
DisClaimsHold = (elf : List ℕ) → EachCallClaims (codes "dis" ∷ elf ∷ []) Done (DisClaims elf)

-- A peak is needed: if a run from a start state has so many areas in use under fitting events,
-- before or after one of them, claims C1 to C4 hold with no smaller number.
abbrev pub PeaksAreNeeded : Type 0
PeaksAreNeeded =
    (image : ImageData) (plan : PlanData) (most : ℕ) (m : Machine) (es : List Event) → IsPlan plan → RunsMeetSafetyEquations image plan most → Starts image plan m
    → AllFit plan m es → driven_peak m es ≤ most
