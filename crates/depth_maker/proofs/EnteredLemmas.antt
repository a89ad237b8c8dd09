-- The frames that parts of a point's duties enter.
use Rattle.std.proofs.Common.{◌≡◌, ℕ, inl, inr, List, [], ◌∷◌, ◌++◌, refl, sym, ap, ◌∙◌, subst, arith}
use Rattle.std.specs.Prelude.{map, Contains}
use Rattle.std.proofs.lemmas.List.{append-nil}
use Rattle.std.proofs.lemmas.List.Elements.{Contains-append_cases, Contains-append_right, Contains-push_cases}
use Rattle.elf_image.specs.Images.{ImageData}
use Rattle.tcd_plan.specs.PlanData.{PlanData}
use Rattle.tc_isa.specs.declared.shapes.Shape.{Shape}
use Rattle.value_domain.specs.declared.states.State.{State}
use Rattle.value_domain.specs.Limits.{Limits}
use Rattle.depth_cert.specs.declared.keys.Key.{Key}
use Rattle.cfg_recover.specs.Entries.{irq_key, irq_entry}
use Rattle.cfg_recover.specs.Duties.{Duty, jump, enter, resume, leave, Owed, owed, entry_duties_of, exit_duties_of, misaligned_duties_of, interrupt_duties_of, successor_duties_of, duties_of, keys_entered_by_duty, entered_keys}
use Rattle.cfg_recover.proofs.Members.{contains_flat}
use Rattle.cfg_recover.proofs.DutyLists.{successors_none, leavings_none, parts}

pub entered_irqs : (plan : PlanData) (key : Key) (s : State) (ps : List ℕ) → entered_keys (map (λ p. owed 11 (enter (irq_key plan p) (irq_entry plan key s p))) ps) ≡ map (irq_key plan) ps
entered_irqs plan key s [] = refl
entered_irqs plan key s (p ∷ ps) = ap (λ (l : List Key). irq_key plan p ∷ l) (entered_irqs plan key s ps)

-- only entries and interrupts enter frames
pub entered_whole : (b : Limits) (image : ImageData) (plan : PlanData) (k : Key) (p : ℕ) (s : State) (shape : Shape) (n : ℕ)
    → entered_keys (duties_of b image plan k p s shape n) ≡ (entered_keys (entry_duties_of plan k p s shape n) ++ entered_keys (misaligned_duties_of b plan k s shape)) ++ entered_keys (interrupt_duties_of plan k s)
unfolding duties_of
entered_whole b image plan k p s shape n =
    let g : Owed → List Key = λ d. keys_entered_by_duty d.duty in
    let bs = entry_duties_of plan k p s shape n in
    let ds = misaligned_duties_of b plan k s shape in
    let es = interrupt_duties_of plan k s in
    parts g (successor_duties_of b image plan p s shape n) bs ds es (exit_duties_of k s shape) [] (entered_keys bs) (entered_keys ds) (entered_keys es) []
    (successors_none g (λ q t. refl) b image plan p s shape n) refl refl refl (leavings_none g (λ x. refl) (λ x. refl) k s shape)
    ∙ append-nil (entered_keys bs ++ entered_keys ds ++ entered_keys es)

-- ---- what is entered is owed
pub entered_owed : (ds : List Owed) (k : Key) → Contains (entered_keys ds) k → (t : State) × ((d : Owed) × Contains ds d × (d.duty ≡ enter k t))
entered_owed [] k c = absurd (omega (arith, c.1))
entered_owed (d ∷ ds) k c =
    elim (Contains-append_cases (keys_entered_by_duty d.duty) (entered_keys ds) k c) [
      | inl here ↦ let e = one d.duty here in (e.0, (d, (0, omega arith, refl), e.1))
      | inr there ↦ let r = entered_owed ds k there in (r.0, (r.1.0, Contains-append_right (d ∷ []) ds r.1.0 r.1.1, r.1.2))
    ] where
      one : (e : Duty) → Contains (keys_entered_by_duty e) k → (t : State) × (e ≡ enter k t)
      one (jump q t) h = absurd (omega (arith, h.1))
      one (resume l q) h = absurd (omega (arith, h.1))
      one (leave x) h = absurd (omega (arith, h.1))
      one (enter l t) h = elim (Contains-push_cases [] l k h) [ inl n ↦ absurd (omega (arith, n.1)) | inr e ↦ (t, ap (λ (z : Key). enter z t) e) ]

pub owed_entered : (ds : List Owed) (d : Owed) (k : Key) (t : State) → Contains ds d → d.duty ≡ enter k t → Contains (entered_keys ds) k
owed_entered ds d k t c e = contains_flat (λ (o : Owed). keys_entered_by_duty o.duty) k d ds c (subst (λ (y : Duty). Contains (keys_entered_by_duty y) k) (sym e) (0, omega arith, refl))
