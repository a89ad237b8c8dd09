-- The duty of an access: the entry of the handler of misaligned accesses, if one may be misaligned.
use Rattle.std.proofs.Common.{◌≡◌, ◌⊎◌, inl, inr, ℕ, Bool, true, false, not, [], refl, sym, ap, ◌∙◌}
use Rattle.tcd_plan.specs.PlanData.{PlanData}
use Rattle.tc_isa.specs.declared.shapes.Arg.{Arg}
use Rattle.tc_isa.specs.declared.shapes.Shape.{Shape}
use Rattle.tc_isa.specs.declared.shapes.Shape.TheVariants.{Load, Store}
use Rattle.value_domain.specs.declared.states.State.{State}
use Rattle.value_domain.specs.Limits.{Limits}
use Rattle.depth_cert.specs.declared.keys.Key.{Key}
use Rattle.cfg_recover.specs.LocalRules.{IsAccessAllowed}
use Rattle.cfg_recover.specs.Duties.{may_be_misaligned, misaligned_duties_of}

-- only loads and stores access memory
pub accesses_nothing : (b : Limits) (plan : PlanData) (s : State) (shape : Shape) → ((dst : ℕ) (base : Arg) (offset size : ℕ) (signed after : Bool) → shape ≡ Load dst base offset size signed after → ⊥)
    → ((src : ℕ) (base : Arg) (offset size : ℕ) (after : Bool) → shape ≡ Store src base offset size after → ⊥) → may_be_misaligned b plan s shape ≡ false
accesses_nothing b plan s (Load dst base offset size signed after) load store = absurd (load dst base offset size signed after refl)
accesses_nothing b plan s (Store src base offset size after) load store = absurd (store src base offset size after refl)
accesses_nothing b plan s _ load store = refl

-- if the plan doesn't state the trap, K10 has each address aligned
untrapped : (t aln : Bool) → (t ≡ true) ⊎ (aln ≡ true) → aln ≡ false → not t ≡ false
untrapped t aln (inl e) off = ap not e
untrapped t aln (inr on) off = absurd (let no : true ≡ false = sym on ∙ off in cc)

pub owes_no_access : (b : Limits) (plan : PlanData) (key : Key) (s : State) (shape : Shape) → IsAccessAllowed b plan s shape → plan.aln ≡ false → misaligned_duties_of b plan key s shape ≡ []
owes_no_access b plan key s (Load dst base offset size signed after) may off = rw (untrapped _ plan.aln may off) refl
owes_no_access b plan key s (Store src base offset size after) may off = rw (untrapped _ plan.aln may off) refl
owes_no_access b plan key s _ may off = refl
