-- Covered entries of handlers stay covered as the table rises, and cover the entries of points
-- within the context.
use Rattle.std.proofs.Common.{◌≡◌, ℕ, ◌<◌, Bool, true, false, IsTrue, List, [], length, Option, Some, None, refl, sym, ap, ◌∙◌, subst, arith, Contains}
use Rattle.std.specs.Prelude.{◌==◌, filter, nat_lt, if◌then◌else◌, slice_index_or}
use Rattle.std.proofs.lemmas.Bool.{eq-eqb, ltb-true, lt-ltb}
use Rattle.elf_image.specs.Images.{ImageData}
use Rattle.tcd_plan.specs.PlanData.{PlanData}
use Rattle.value_domain.specs.declared.values.Val.{Val}
use Rattle.value_domain.specs.declared.states.State.{State}
use Rattle.value_domain.specs.Limits.{Limits}
use Rattle.value_domain.specs.State.{Covers}
use Rattle.value_domain.specs.Values.{IsBelow, IsInLattice, any_val, word_val}
use Rattle.vd_transfer.specs.Registers.{register_slot}
use Rattle.depth_cert.specs.declared.keys.Key.{Key}
use Rattle.depth_cert.specs.Known.{CoversKnown, Known, leaving, state}
use Rattle.depth_cert.specs.WellFormed.{IsWellFormedState}
use Rattle.cfg_recover.specs.Assignments.{Assignment, AssignmentCovers, Joins, Place, point}
use Rattle.cfg_recover.specs.Duties.{Owed, enter, interrupt_duties_of, owed}
use Rattle.cfg_recover.specs.Entries.{possible_irqs_of, state_with_only_a10, irq_entry, irq_key, handler_entry_sp_of}
use Rattle.cfg_recover.proofs.EntryLaws.{entry_length}
use Rattle.cfg_recover.proofs.Members.{contains_filter, contains_map}
use Rattle.depth_maker.specs.WellFormedAssignments.{IsWellFormedDuty, AllWellFormed}
use Rattle.depth_maker.specs.MakerLaws.{AreMakerLaws}
use Rattle.depth_maker.specs.InterruptHandlers.{AreHandlersCovered, IsWithinContext, AreContextsCovered, IsContextOf, IsContextCovered, context_sp}
use Rattle.depth_maker.specs.TableView.{TableView}
use Rattle.depth_maker.specs.TableInvariant.{IsDutySettled}
use Rattle.depth_maker.specs.declared.interrupt_contexts.InterruptContext.{InterruptContext}
use Rattle.depth_maker.specs.declared.interrupt_contexts.LastInterrupts.{LastInterrupts}
use Rattle.depth_maker.proofs.DutyGrowth.{contained_filter, contained_map, entry_covers}
use Rattle.depth_maker.proofs.StateGrowth.{covers_through}
use Rattle.depth_maker.proofs.TableLaws.{covers_stays}

-- ---- as the table rises
-- values only grow
one_stays : (b : Limits) (image : ImageData) (plan : PlanData) (laws : AreMakerLaws b image plan) (a after : Assignment) (y : Place) (well_formed : AllWellFormed b a) (j : Joins b image plan a after y) (interrupts : Option InterruptContext)
    → IsContextCovered b plan a interrupts → IsContextCovered b plan after interrupts
one_stays b image plan laws a after y well_formed j None h = tt
one_stays b image plan laws a after y well_formed j (Some x) h = record {
  stack = h.stack;
  each = λ p c lt.
      let e = h.each p c lt in
      record {
        well_formed = e.well_formed;
        covers = covers_stays b image plan laws a after y well_formed j (point (irq_key plan p) (irq_key plan p).entry) (state (state_with_only_a10 (context_sp plan x) false p true)) e.well_formed e.covers;
      };
}

pub interrupts_stay : (b : Limits) (image : ImageData) (plan : PlanData) (laws : AreMakerLaws b image plan) (a after : Assignment) (y : Place) (well_formed : AllWellFormed b a) (j : Joins b image plan a after y) (interrupts : LastInterrupts)
    → AreContextsCovered b plan a interrupts → AreContextsCovered b plan after interrupts
interrupts_stay b image plan laws a after y well_formed j interrupts h = (one_stays b image plan laws a after y well_formed j interrupts.last h.0, one_stays b image plan laws a after y well_formed j interrupts.before h.1)

-- the same values
one_again : (b : Limits) (plan : PlanData) (a after : Assignment) → ((q : Place) → after q ≡ a q) → (interrupts : Option InterruptContext) → IsContextCovered b plan a interrupts → IsContextCovered b plan after interrupts
one_again b plan a after same None h = tt
one_again b plan a after same (Some x) h = record {
  stack = h.stack;
  each = λ p c lt.
      let e = h.each p c lt in
      record {
        well_formed = e.well_formed;
        covers = record { known = (e.covers).known; at = same (point (irq_key plan p) (irq_key plan p).entry) ∙ (e.covers).at; covers = (e.covers).covers };
      };
}

pub interrupts_again : (b : Limits) (plan : PlanData) (a after : Assignment) → ((q : Place) → after q ≡ a q) → (interrupts : LastInterrupts) → AreContextsCovered b plan a interrupts → AreContextsCovered b plan after interrupts
interrupts_again b plan a after same interrupts h = (one_again b plan a after same interrupts.last h.0, one_again b plan a after same interrupts.before h.1)

-- ---- points within a context
-- the interrupts that may be taken
taken : (on : Bool) (m : ℕ) (irqs : List ℕ) (q : ℕ) → Contains (if on then filter (λ p. nat_lt m p) irqs else []) q → Contains irqs q × (m < q)
taken false m irqs q c = absurd (omega (arith, c.1))
taken true m irqs q c = let r = contained_filter (λ p. nat_lt m p) irqs q c in (r.0, ltb-true m q r.1)

pub takes : (on : Bool) (m : ℕ) (irqs : List ℕ) (q : ℕ) → IsTrue on → Contains irqs q → m < q → Contains (if on then filter (λ p. nat_lt m p) irqs else []) q
takes true m irqs q t c lt = contains_filter (λ p. nat_lt m p) q irqs c (lt-ltb m q lt)
takes false m irqs q t c lt = absurd (let no : false ≡ true = t in cc)

-- the stack pointers at the handlers' entries
stacks_below : (inner known : Bool) (v w x : Val) → known ≡ inner → (IsTrue known → IsBelow v w) → IsBelow (if inner then v else x) (if known then w else x)
stacks_below true true v w x e h = h refl
stacks_below true false v w x e h = absurd (let no : false ≡ true = e in cc)
stacks_below false true v w x e h = absurd (let no : true ≡ false = e in cc)
stacks_below false false v w x e h = λ z m. m

stack_below : (plan : PlanData) (k : Key) (s : State) (h : InterruptContext) → IsWithinContext h k.is s → IsBelow (handler_entry_sp_of plan k s) (context_sp plan h)
unfolding register_slot
stack_below plan k s h asks = stacks_below k.is h.is (slice_index_or s.regs 22 any_val) h.sp (word_val plan.isp) asks.same asks.below

stack_same : (plan : PlanData) (k : Key) (s : State) (h : InterruptContext) → IsContextOf h k.is s → context_sp plan h ≡ handler_entry_sp_of plan k s
unfolding register_slot
stack_same plan k s h from =
    ap (λ (t : Bool). if t then h.sp else word_val plan.isp) from.same ∙ ap (λ (v : Val). if k.is then v else word_val plan.isp) from.sp

-- what covers a state covers all that the state covers
covers_less : (w : Known) (v u : State) → length u.regs ≡ length v.regs → CoversKnown w (state v) → Covers v u → CoversKnown w (state u)
covers_less (state x) v u same h c = covers_through x v u same h c
covers_less (leaving x) v u same h c = absurd h

-- the entries that a point asks for are covered
pub interrupts_settle : (b : Limits) (plan : PlanData) (t : TableView) (k : Key) (p : ℕ) (s : State) (h : InterruptContext) → AreHandlersCovered b plan t.cells h → IsWithinContext h k.is s → (d : Owed) → Contains (interrupt_duties_of plan k s) d
    → IsDutySettled t k p s d.duty
interrupts_settle b plan t k p s h entered asks d c =
    let r = contained_map (λ (q : ℕ). owed 11 (enter (irq_key plan q) (irq_entry plan k s q))) (possible_irqs_of plan s) d c in
    let q = r.0 in
    let i = taken s.ie s.ccpn plan.irqs q r.1 in
    let e = entered.each q i.0 (omega (arith, i.1, asks.above)) in
    let v = context_sp plan h in
    let w = handler_entry_sp_of plan k s in
    let less : Covers (state_with_only_a10 v false q true) (state_with_only_a10 w false q true) = entry_covers w v false q q true (stack_below plan k s h asks) (omega arith) in
    let covered : AssignmentCovers t.cells (point (irq_key plan q) (irq_key plan q).entry) (state (irq_entry plan k s q)) =
    record {
      known = (e.covers).known;
      at = (e.covers).at;
      covers = covers_less (e.covers).known (state_with_only_a10 v false q true) (state_with_only_a10 w false q true) (entry_length w false q true ∙ sym (entry_length v false q true)) (e.covers).covers less;
    } in
    subst (λ (o : Owed). IsDutySettled t k p s o.duty) r.2 covered

-- the context of a point whose entries are covered
pub interrupts_new : (b : Limits) (plan : PlanData) (t : TableView) (k : Key) (p : ℕ) (s : State) (h : InterruptContext) → IsContextOf h k.is s → IsWellFormedState b s → IsTrue s.ie
    → ((d : Owed) → Contains (interrupt_duties_of plan k s) d → IsWellFormedDuty b d.duty) → ((d : Owed) → Contains (interrupt_duties_of plan k s) d → IsDutySettled t k p s d.duty) → AreHandlersCovered b plan t.cells h
interrupts_new b plan t k p s h from ps on well_formed settled = record {
  stack = subst (IsInLattice b) (sym from.sp) (ps.values 22 (omega (arith, ps.regs)));
  each = λ q c lt.
      let f : ℕ → Owed = λ (q : ℕ). owed 11 (enter (irq_key plan q) (irq_entry plan k s q)) in
      let i = contains_map f (possible_irqs_of plan s) q (takes s.ie s.ccpn plan.irqs q on c (omega (arith, lt, from.ccpn))) in
      let e = sym (stack_same plan k s h from) in
      record {
        well_formed = subst (λ (v : Val). IsWellFormedState b (state_with_only_a10 v false q true)) e (well_formed (f q) i);
        covers = subst (λ (v : Val). AssignmentCovers t.cells (point (irq_key plan q) (irq_key plan q).entry) (state (state_with_only_a10 v false q true))) e (settled (f q) i);
      };
}

-- if some interrupt may be taken, IE may be on
pub taken_on : (on : Bool) (ps irqs : List ℕ) → irqs ≡ (if on then ps else []) → (length irqs == 0) ≡ false → IsTrue on
taken_on true ps irqs e some = refl
taken_on false ps irqs e some = absurd (let no : true ≡ false = sym (eq-eqb (length irqs) 0 (ap (λ (l : List ℕ). length l) e)) ∙ some in cc)
