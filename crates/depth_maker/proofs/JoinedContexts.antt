-- Entries of handlers that are covered in two contexts which differ at most in A10 are covered if
-- both values of A10 are joined.
use Rattle.std.proofs.Common.{◌≡◌, ℕ, ◌<◌, inl, inr, Bool, true, false, List, length, Some, sym, ◌∙◌, subst, arith, get_or, set, replicate}
use Rattle.std.specs.Prelude.{if◌then◌else◌}
use Rattle.std.proofs.lemmas.Bool.{cases_eq}
use Rattle.std.proofs.lemmas.List.{get_or-set_same, get_or-set_other, length-replicate}
use Rattle.std.proofs.Math.ListN.{length-set}
use Rattle.tcd_plan.specs.PlanData.{PlanData}
use Rattle.value_domain.specs.declared.values.Val.{Val}
use Rattle.value_domain.specs.declared.states.State.{State}
use Rattle.value_domain.specs.Limits.{AreLimits, Limits}
use Rattle.value_domain.specs.State.{AreBelow, Covers}
use Rattle.value_domain.specs.Values.{join_of, IsBelow, IsInLattice, any_val, word_val}
use Rattle.value_domain.proofs.JoinLaws.{join_least}
use Rattle.vd_transfer.specs.Registers.{register_slot}
use Rattle.depth_cert.specs.Known.{CoversKnown, Known, leaving, state}
use Rattle.depth_cert.specs.WellFormed.{IsWellFormedState}
use Rattle.cfg_recover.specs.Assignments.{Assignment, AssignmentCovers, Place, point}
use Rattle.cfg_recover.specs.Entries.{state_with_only_a10, irq_key}
use Rattle.cfg_recover.proofs.EntryLaws.{entry_length}
use Rattle.cfg_recover.proofs.FlowStates.{entry_values}
use Rattle.depth_maker.specs.InterruptHandlers.{AreHandlersCovered, joined_context}
use Rattle.depth_maker.specs.WellFormedAssignments.{AllWellFormed}
use Rattle.depth_maker.specs.declared.interrupt_contexts.InterruptContext.{InterruptContext}

-- ---- one value of an entry
-- another value at one place
set_covered : (vs ws : List Val) (i : ℕ) (v w : Val) → i < length vs → AreBelow (set vs i v) ws → IsBelow w (get_or ws i any_val) → AreBelow (set vs i w) ws
set_covered vs ws i v w at below here r lt =
    let within : r < length (set vs i v) = omega (arith, lt, length-set vs i w, length-set vs i v) in
    elim (cases_eq r i) [
      | inl e ↦ let e2 : r ≡ i = e in rw (e2, get_or-set_same vs i w any_val at) here
      | inr n ↦ rw (get_or-set_other vs i r w any_val n) (subst (λ (u : Val). IsBelow u (get_or ws r any_val)) (get_or-set_other vs i r v any_val n) (below r within))
    ]

value_covered : (vs ws : List Val) (i : ℕ) (v : Val) → i < length vs → AreBelow (set vs i v) ws → IsBelow v (get_or ws i any_val)
value_covered vs ws i v at below =
    subst (λ (u : Val). IsBelow u (get_or ws i any_val)) (get_or-set_same vs i v any_val at) (below i (omega (arith, at, length-set vs i v)))

-- A10 of an entry is covered
stack_here : (x : State) (v : Val) (p : ℕ) → Covers x (state_with_only_a10 v false p true) → IsBelow v (get_or x.regs 22 any_val)
unfolding register_slot
stack_here x v p c = value_covered (replicate 27 any_val) x.regs 22 v (omega (arith, length-replicate 27 any_val)) c.regs

-- so is another A10
stack_covered : (x : State) (v w : Val) (p : ℕ) → Covers x (state_with_only_a10 v false p true) → IsBelow w (get_or x.regs 22 any_val) → Covers x (state_with_only_a10 w false p true)
unfolding register_slot
stack_covered x v w p c below = record {
  regs = set_covered (replicate 27 any_val) x.regs 22 v w (omega (arith, length-replicate 27 any_val)) c.regs below;
  context = c.context;
  locals = c.locals;
}

module _ (b : Limits) (a : Assignment) (limits : AreLimits b) (well_formed : AllWellFormed b a) where
  -- ---- one entry
  module _ (v w : Val) (vv : IsInLattice b v) (vw : IsInLattice b w) (y : Place) (p : ℕ) where
    known_joined : (u : Known) → a y ≡ Some u → CoversKnown u (state (state_with_only_a10 v false p true)) → CoversKnown u (state (state_with_only_a10 w false p true)) → CoversKnown u (state (state_with_only_a10 (join_of b v w) false p true))
    known_joined (state x) e h k =
        let px : IsWellFormedState b x = well_formed y (state x) e in
        stack_covered x v (join_of b v w) p h ((join_least b v w limits vv vw).least (get_or x.regs 22 any_val) (px.values 22 (omega (arith, px.regs))) (stack_here x v p h) (stack_here x w p k))
    known_joined (leaving x) e h k = absurd h

    entry_joined : AssignmentCovers a y (state (state_with_only_a10 v false p true)) → AssignmentCovers a y (state (state_with_only_a10 w false p true)) → AssignmentCovers a y (state (state_with_only_a10 (join_of b v w) false p true))
    entry_joined c d =
        let e : d.known ≡ c.known = (let f : Some d.known ≡ Some c.known = sym d.at ∙ c.at in cc) in
        record { known = c.known; at = c.at; covers = known_joined c.known c.at c.covers (subst (λ (u : Known). CoversKnown u (state (state_with_only_a10 w false p true))) e d.covers) }

    -- on the interrupt stack A10 is joined; another stack begins at ISP
    stack_joined : (inner : Bool) (x : Val) → AssignmentCovers a y (state (state_with_only_a10 (if inner then v else x) false p true)) → AssignmentCovers a y (state (state_with_only_a10 (if inner then w else x) false p true))
        → AssignmentCovers a y (state (state_with_only_a10 (if inner then join_of b v w else x) false p true))
    stack_joined true x c d = entry_joined c d
    stack_joined false x c d = c

    stack_well_formed : (inner : Bool) (x : Val) → IsWellFormedState b (state_with_only_a10 (if inner then v else x) false p true) → IsWellFormedState b (state_with_only_a10 (if inner then join_of b v w else x) false p true)
    unfolding register_slot
    stack_well_formed true x c = record {
      regs = entry_length (join_of b v w) false p true;
      values = entry_values b (join_of b v w) false p true limits (join_least b v w limits vv vw).value;
      few = c.few;
    }
    stack_well_formed false x c = c

  -- ---- two contexts
  pub contexts_join : (plan : PlanData) (h g : InterruptContext) → g.is ≡ h.is → g.ccpn ≡ h.ccpn → AreHandlersCovered b plan a h → AreHandlersCovered b plan a g → AreHandlersCovered b plan a (joined_context b h g.sp)
  contexts_join plan h g same level eh eg = record {
    stack = (join_least b h.sp g.sp limits eh.stack eg.stack).value;
    each = λ p c lt.
        let x : Val = word_val plan.isp in
        let y : Place = point (irq_key plan p) (irq_key plan p).entry in
        let i = eh.each p c lt in
        let j = eg.each p c (omega (arith, level, lt)) in
        let other : AssignmentCovers a y (state (state_with_only_a10 (if h.is then g.sp else x) false p true)) = subst (λ (t : Bool). AssignmentCovers a y (state (state_with_only_a10 (if t then g.sp else x) false p true))) same j.covers in
        record {
          well_formed = stack_well_formed h.sp g.sp eh.stack eg.stack y p h.is x i.well_formed;
          covers = stack_joined h.sp g.sp eh.stack eg.stack y p h.is x i.covers other;
        };
  }
