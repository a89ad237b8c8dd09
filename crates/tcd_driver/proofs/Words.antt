-- The commands that arguments ask for, and the files that most of them read first.
use Rattle.std.proofs.Common.{◌≡◌, ◌≤◌, ℕ, List, Option, sym, subst}
use Rattle.std.specs.Prelude.{IfSome, IfNone}
use Rattle.elf_image.specs.Images.{ImageData}
use Rattle.tcd_plan.specs.PlanData.{PlanData}
use Rattle.tcd_base.specs.Files.{FilesSeen, ReadKeepsFiles}
use Rattle.tcd_reading.specs.Inputs.{HoldsInput, Reading, input}
use Rattle.tcd_reading.proofs.Told.{Leads, leads_then, leads_read}
use Rattle.tcd_forms.specs.Forms.{elf_form, plan_form}

pub if_some_by : {A : Type 0} (o p : Option A) (P : A → Type 0) → o ≡ p → IfSome p P → IfSome o P
if_some_by {A} o p P e h = subst (λ (x : Option A). IfSome x P) (sym e) h

pub if_none_by : {A : Type 0} (o p : Option A) (P : Type 0) → o ≡ p → IfNone p P → IfNone o P
if_none_by {A} o p P e h = subst (λ (x : Option A). IfNone x P) (sym e) h

-- an executable and a plan are read, and then the rest
pub leads_firmware : (elf plan : List ℕ) (next : ImageData → PlanData → Reading) (i : ImageData) (p : PlanData) (old mid new : FilesSeen) → ReadKeepsFiles elf old mid → old.faults ≤ mid.faults → HoldsInput elf_form old.held elf i
    → ReadKeepsFiles plan mid new → mid.faults ≤ new.faults → HoldsInput plan_form mid.held plan p → Leads (input ImageData elf_form elf (λ v. input PlanData plan_form plan (next v))) (next i p) old new
leads_firmware elf plan next i p old mid new leaves later found leaves2 later2 found2 =
    leads_then _ _ _ old mid new (leads_read ImageData elf_form elf (λ v. input PlanData plan_form plan (next v)) i old mid leaves later found) (leads_read PlanData plan_form plan (next i) p mid new leaves2 later2 found2)
