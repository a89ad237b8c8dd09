-- The entries of interrupts hold if all rules hold at a point, and in each state below a context in
-- which they hold.
use Rattle.std.proofs.Common.{◌≡◌, ◌==◌, ℕ, ◌≤◌, ◌<◌, ◌+◌, ◌++◌, ◌∙◌, Bool, true, false, if◌then◌else◌, List, [], ◌∷◌, length, map, filter, replicate, set, get_or, inl, inr, arith, refl, sym, ap, subst}
use Rattle.std.specs.Prelude.{All, IfSome, IsSomeAnd, IsTrue, Option, Some, None, nat_lt, slice_index_or}
use Rattle.std.proofs.lemmas.Bool.{cases_Bool, cases_lt, eqb-true, ltb-true, lt-ltb}
use Rattle.std.proofs.Math.ListN.{get_or-eq_default}
use Rattle.std.proofs.lemmas.List.{length-replicate, get_or-set_same, get_or-set_other}
use Rattle.std.proofs.lemmas.List.Elements.{All-nil, All-cons, All-head, All-tail}
use Rattle.elf_image.specs.Images.{ImageData}
use Rattle.tcd_plan.specs.PlanData.{PlanData}
use Rattle.value_domain.specs.declared.values.Val.{Val}
use Rattle.value_domain.specs.declared.states.State.{State}
use Rattle.value_domain.specs.Values.{any_val, IsWellFormed, IsInLattice, IsBelow, word_val}
use Rattle.value_domain.specs.Limits.{Limits}
use Rattle.value_domain.specs.State.{AreInLattice, AreWellFormed, Covers}
use Rattle.value_domain.proofs.RegLaws.{read_at}
use Rattle.arrayvec.specs.ArrayVec.{ArrayVec}
use Rattle.vd_transfer.specs.declared.change.Base.TheVariants.{Any}
use Rattle.vd_transfer.specs.declared.change.RegisterWrite.{RegisterWrite}
use Rattle.vd_transfer.specs.Registers.{register_slot}
use Rattle.vd_transfer.specs.Changes.{state_after, no_write, register_write}
use Rattle.depth_cert.specs.declared.keys.Key.{Key}
use Rattle.depth_cert.specs.declared.points.Point.{Point}
use Rattle.depth_cert.specs.Points.{find_point}
use Rattle.depth_cert.specs.Nodes.{NodeData, find_node}
use Rattle.depth_cert.specs.Certs.{CertData}
use Rattle.cfg_recover.specs.Code.{HasCode}
use Rattle.cfg_recover.specs.Entries.{irq_key, irq_entry, state_with_only_a10, handler_entry_sp_of, possible_irqs_of, handler_entry_sp_from_a10}
use Rattle.cfg_recover.specs.LocalFaults.{IsFaultless}
use Rattle.cfg_recover.specs.Duties.{Owed, owed, enter, successor_duties_of, entry_duties_of, misaligned_duties_of, interrupt_duties_of, exit_duties_of, duties_of}
use Rattle.cfg_recover.specs.FlowDuties.{duties_of_irqs}
use Rattle.cfg_recover.specs.RulesHoldOrFail.{limits_of_cert, HasCoveringPoint, RuleHolds}
use Rattle.cfg_recover.proofs.EntryLaws.{entry_length}
use Rattle.cfg_recover.proofs.EntryChanges.{handler-is}
use Rattle.depth_check.specs.declared.last_interrupts.InterruptContext.{InterruptContext}
use Rattle.depth_check.specs.declared.last_interrupts.LastInterrupts.{LastInterrupts}
use Rattle.depth_check.specs.LeastBroken.{FindsLeastBroken}
use Rattle.depth_check.specs.DutiesHold.{DutyHolds, DutiesHold}
use Rattle.depth_check.specs.Interrupts.{IsContextExceptSp, FitsContext, InterruptsHold, InterruptsHoldInContext, HasWellFormedSps, LastInterruptsHold, InterruptsHoldWithSp}
use Rattle.depth_check.proofs.DutyLaws.{All-left, All-right}
use Rattle.depth_check.proofs.RuleLaws.{holds_from}
use Rattle.depth_check.proofs.NarrowLaws.{apart, covers_trans, found_more}

-- if all rules hold at a point, the entries of its interrupts hold
pub interrupts_at : (image : ImageData) (plan : PlanData) (cert : CertData) (node : NodeData) (point : Point) → ((r : ℕ) → RuleHolds image plan cert node point r) → InterruptsHold plan cert node point.state
unfolding duties_of
interrupts_at image plan cert node point all q =
    let values : AreInLattice (limits_of_cert plan cert) (point.state).regs = (all 2).values refl in
    let faultless : IsFaultless (limits_of_cert plan cert) image plan node.key point.addr point.state = λ r. (all r).own values in
    let has : HasCode image plan point.addr = (faultless 3).code refl in
    let js = successor_duties_of (limits_of_cert plan cert) image plan point.addr point.state has.shape has.size in
    let es = entry_duties_of plan node.key point.addr point.state has.shape has.size in
    let ms = misaligned_duties_of (limits_of_cert plan cert) plan node.key point.state has.shape in
    let is = interrupt_duties_of plan node.key point.state in
    let ls = exit_duties_of node.key point.state has.shape in
    let each = (holds_from image plan cert node point has.shape has.size values faultless has.code q (all q)).0 in
    All-right (DutyHolds cert node point.state q) (js ++ es ++ ms) is (All-left (DutyHolds cert node point.state q) (js ++ es ++ ms ++ is) ls each)

-- the interrupts that may be taken with this IE and CCPN
abbrev taken : PlanData → Bool → ℕ → List ℕ
taken plan ie ccpn = if ie then filter (λ p. nat_lt ccpn p) plan.irqs else []

-- ---- A10 at the entries
-- A10 matters on the interrupt stack alone
stacks_below : (inner asked : Bool) (v w x : Val) → asked ≡ inner → (IsTrue asked → IsBelow v w) → IsBelow (if inner then v else x) (if asked then w else x)
stacks_below true true v w x e h = h refl
stacks_below true false v w x e h = absurd (let no : false ≡ true = e in cc)
stacks_below false true v w x e h = absurd (let no : true ≡ false = e in cc)
stacks_below false false v w x e h = λ z m. m

stack_below : (plan : PlanData) (key other : Key) (sp : Val) (t : State) → key.is ≡ other.is → (IsTrue key.is → IsBelow (slice_index_or t.regs 22 any_val) sp) → IsBelow (handler_entry_sp_of plan other t) (handler_entry_sp_from_a10 plan key sp)
unfolding register_slot
stack_below plan key other sp t e h = stacks_below other.is key.is (slice_index_or t.regs 22 any_val) sp (word_val plan.isp) e h

-- the entries that hold in a state hold with its own A10
own_stack : (plan : PlanData) (cert : CertData) (node : NodeData) (s : State) → InterruptsHold plan cert node s → InterruptsHoldWithSp plan cert node s (slice_index_or s.regs 22 any_val)
unfolding register_slot
own_stack plan cert node s h = h

-- the value that is read from A10's slot
own_is : (vs ws : List Val) (v w : Val) → vs ≡ ws → 22 < length vs → v ≡ get_or vs 22 v → w ≡ v → w ≡ slice_index_or ws 22 any_val
own_is vs ws v w e lt at same = same ∙ sym (read_at vs 22 v any_val lt at) ∙ ap (λ (l : List Val). slice_index_or l 22 any_val) e

-- it is a value of the limits, and the entries that hold in the state hold with it
pub own_value : (b : Limits) (s t : State) (v w : Val) → s ≡ t → 22 < length s.regs → v ≡ get_or s.regs 22 v → w ≡ v → AreInLattice b t.regs → IsInLattice b w
own_value b s t v w e lt at same values =
    subst (IsInLattice b) (sym (own_is s.regs t.regs v w (ap (λ (u : State). u.regs) e) lt at same)) (values 22 (subst (λ (u : State). 22 < length u.regs) e lt))

pub own_holds : (plan : PlanData) (cert : CertData) (node : NodeData) (s t : State) (v w : Val) → s ≡ t → 22 < length s.regs → v ≡ get_or s.regs 22 v → w ≡ v → InterruptsHold plan cert node t → InterruptsHoldWithSp plan cert node t w
own_holds plan cert node s t v w e lt at same holds =
    subst (InterruptsHoldWithSp plan cert node t) (sym (own_is s.regs t.regs v w (ap (λ (u : State). u.regs) e) lt at same)) (own_stack plan cert node t holds)

-- the duties of the entries with another A10
told_stack : (plan : PlanData) (is : Bool) (s entry : State) (sp : Val) (n : ℕ) (irqs : List ℕ) → entry ≡ state_with_only_a10 sp false n true → irqs ≡ possible_irqs_of plan s → IsTrue is
    → duties_of_irqs plan entry irqs ≡ map (λ p. owed 11 (enter (irq_key plan p) (state_with_only_a10 (if is then sp else word_val plan.isp) false p true))) (possible_irqs_of plan s)
unfolding register_slot
told_stack plan true s entry sp n irqs e f on = ap (λ (t : State). duties_of_irqs plan t irqs) e ∙ ap (λ (l : List ℕ). duties_of_irqs plan (state_with_only_a10 sp false n true) l) f
told_stack plan false s entry sp n irqs e f on = absurd (let no : false ≡ true = on in cc)

-- so the entries hold with it
pub other_stack : (plan : PlanData) (cert : CertData) (node : NodeData) (s entry : State) (sp : Val) (n : ℕ) (irqs : List ℕ) → entry ≡ state_with_only_a10 sp false n true → irqs ≡ possible_irqs_of plan s → IsTrue (node.key).is
    → FindsLeastBroken (DutiesHold cert node s (duties_of_irqs plan entry irqs)) None → InterruptsHoldWithSp plan cert node s sp
other_stack plan cert node s entry sp n irqs e f on h q = subst (λ (l : List Owed). DutiesHold cert node s l q) (told_stack plan (node.key).is s entry sp n irqs e f on) (h q)

-- a change that puts A10 alone, over unknown values, gives the state at an entry
pub entered_state : (s : State) (sp : Val) (n : ℕ) (p q r : RegisterWrite) (l : ArrayVec Bool) → p ≡ register_write 26 sp → q ≡ no_write → r ≡ no_write → l ≡ record { items = [] }
    → state_after s (record { base = Any; first = p; second = q; third = r; ie = false; ccpn = n; lower = true; locals = l }) ≡ state_with_only_a10 sp false n true
entered_state s sp n p q r l e f g h =
    let made : RegisterWrite → RegisterWrite → RegisterWrite → ArrayVec Bool → State = λ a b c d. state_after s (record { base = Any; first = a; second = b; third = c; ie = false; ccpn = n; lower = true; locals = d }) in
    ap (λ (x : RegisterWrite). made x q r l) e
    ∙ ap (λ (x : RegisterWrite). made (register_write 26 sp) x r l) f
    ∙ ap (λ (x : RegisterWrite). made (register_write 26 sp) no_write x l) g
    ∙ ap (λ (x : ArrayVec Bool). made (register_write 26 sp) no_write no_write x) h
    ∙ handler-is s sp n

-- two values that are put at one place of a list, the first below the second
put_below : (vs : List Val) (v w : Val) (i r : ℕ) → i < length vs → IsBelow w v → IsBelow (get_or (set vs i w) r any_val) (get_or (set vs i v) r any_val)
put_below vs v w i r lt h =
    elim (cases_Bool (r == i)) [
      | inl e ↦
          let low : get_or (set vs i w) i any_val ≡ w = get_or-set_same vs i w any_val lt in
          subst (λ (k : ℕ). IsBelow (get_or (set vs i w) k any_val) (get_or (set vs i v) k any_val)) (sym (eqb-true r i e))
          (subst (λ (u : Val). IsBelow u (get_or (set vs i v) i any_val)) (sym low) (subst (λ (u : Val). IsBelow w u) (sym (get_or-set_same vs i v any_val lt)) h))
      | inr n ↦
          let low : get_or (set vs i w) r any_val ≡ get_or vs r any_val = get_or-set_other vs i r w any_val (apart r i n) in
          let high : get_or (set vs i v) r any_val ≡ get_or vs r any_val = get_or-set_other vs i r v any_val (apart r i n) in
          subst (λ (u : Val). IsBelow u (get_or (set vs i v) r any_val)) (sym low) (subst (λ (u : Val). IsBelow (get_or vs r any_val) u) (sym high) (λ x m. m))
    ]

-- the state at an entry with a greater A10 covers the state with a smaller one
entry_covers : (v w : Val) (p : ℕ) → IsBelow w v → Covers (state_with_only_a10 v false p true) (state_with_only_a10 w false p true)
unfolding register_slot
entry_covers v w p h = record {
  regs = λ r lt. put_below (replicate 27 any_val) v w 22 r (omega (arith, length-replicate 27 any_val)) h;
  context = ((λ t. t), omega arith, (λ t. t));
  locals = tt;
}

-- ---- duties
-- a need that has room beside m areas has room beside k, if no fewer areas are left
need_there : (o : Option NodeData) (m k room need there : ℕ) → need ≤ room + m → room + k ≤ there → IfSome o (λ n. m + 1 + n.need ≤ need) → IfSome o (λ n. k + 1 + n.need ≤ there)
need_there None m k room need there le more h = h
need_there (Some n) m k room need there le more h =
    let so : k + 1 + n.need ≤ there = omega (arith, le, more, h) in
    so

-- a point that covers one state covers another
met_less : (o : Option NodeData) (e : ℕ) (s t : State) → ((upper : State) → Covers upper s → Covers upper t) → IsSomeAnd o (λ n. HasCoveringPoint n e s) → IsSomeAnd o (λ n. HasCoveringPoint n e t)
met_less None e s t f h = absurd h
met_less (Some n) e s t f h = found_more (find_point e n.points) s t f h

-- entries depend on the node and the state only by the areas that are left; they hold if they hold
-- with states that cover theirs
less_needed : (cert : CertData) (node other : NodeData) (s t : State) (q room : ℕ) (keys : ℕ → Key) (entry less : ℕ → State) (irqs : List ℕ) → ((p : ℕ) (upper : State) → Covers upper (entry p) → Covers upper (less p))
    → node.need ≤ room + length s.locals.items → room + length t.locals.items ≤ other.need
    → DutiesHold cert node s (map (λ p. owed 11 (enter (keys p) (entry p))) irqs) q → DutiesHold cert other t (map (λ p. owed 11 (enter (keys p) (less p))) irqs) q
less_needed cert node other s t q room keys entry less [] f le more h = All-nil (DutyHolds cert other t q)
less_needed cert node other s t q room keys entry less (p ∷ ps) f le more h =
    let told : ℕ → Owed = λ p. owed 11 (enter (keys p) (entry p)) in
    let asks : ℕ → Owed = λ p. owed 11 (enter (keys p) (less p)) in
    let first = All-head (DutyHolds cert node s q) (told p) (map told ps) h in
    All-cons (DutyHolds cert other t q) (asks p) (map asks ps)
    (record {
      met = λ r. met_less (find_node (keys p) cert.nodes) (keys p).entry (entry p) (less p) (f p) (first.met r);
      need = λ r. need_there (find_node (keys p) cert.nodes) (length s.locals.items) (length t.locals.items) room node.need other.need le more (first.need r);
    })
    (less_needed cert node other s t q room keys entry less ps f le more (All-tail (DutyHolds cert node s q) (told p) (map told ps) h))

-- the interrupts above a greater CCPN are among those above a smaller one
step_fewer : (f : ℕ → Owed) (P : Owed → Type 0) (low high : Bool) (p : ℕ) (xs ys : List ℕ) → (high ≡ true → low ≡ true) → (All P (map f xs) → All P (map f ys)) → All P (map f (if low then p ∷ xs else xs)) → All P (map f (if high then p ∷ ys else ys))
step_fewer f P true true p xs ys i k h = All-cons P (f p) (map f ys) (All-head P (f p) (map f xs) h) (k (All-tail P (f p) (map f xs) h))
step_fewer f P true false p xs ys i k h = k (All-tail P (f p) (map f xs) h)
step_fewer f P false true p xs ys i k h = absurd (let no : false ≡ true = i refl in cc)
step_fewer f P false false p xs ys i k h = k h

above_fewer : (f : ℕ → Owed) (P : Owed → Type 0) (low high : ℕ) (ps : List ℕ) → low ≤ high → All P (map f (filter (λ p. nat_lt low p) ps)) → All P (map f (filter (λ p. nat_lt high p) ps))
above_fewer f P low high [] le h = h
above_fewer f P low high (p ∷ ps) le h =
    step_fewer f P (nat_lt low p) (nat_lt high p) p (filter (λ q. nat_lt low q) ps) (filter (λ q. nat_lt high q) ps)
    (λ e. lt-ltb low p (let a = ltb-true high p e in omega (arith, le, a)))
    (above_fewer f P low high ps le) h

taken_fewer : (f : ℕ → Owed) (P : Owed → Type 0) (plan : PlanData) (x y : Bool) (low high : ℕ) → x ≡ y → low ≤ high → All P (map f (taken plan x low)) → All P (map f (taken plan y high))
taken_fewer f P plan true true low high e le h = above_fewer f P low high plan.irqs le h
taken_fewer f P plan true false low high e le h = absurd (let no : true ≡ false = e in cc)
taken_fewer f P plan false true low high e le h = absurd (let no : false ≡ true = e in cc)
taken_fewer f P plan false false low high e le h = h

-- the entries hold in each state below a context in which they hold
pub below_context : (plan : PlanData) (cert : CertData) (node other : NodeData) (context : InterruptContext) (s t : State) → IsContextExceptSp context node s → FitsContext context other t → InterruptsHoldWithSp plan cert node s context.sp → InterruptsHold plan cert other t
below_context plan cert node other context s t a b h q =
    let like = b.like in
    let above : s.ccpn ≤ t.ccpn = omega (arith, a.ccpn, like.ccpn) in
    let v = handler_entry_sp_from_a10 plan node.key context.sp in
    let w = handler_entry_sp_of plan other.key t in
    let low : IsBelow w v = stack_below plan node.key other.key context.sp t (sym a.is ∙ like.is) (λ y. b.sp (a.is ∙ y)) in
    less_needed cert node other s t q context.spare (λ p. irq_key plan p) (λ p. state_with_only_a10 v false p true) (λ p. irq_entry plan other.key t p) (possible_irqs_of plan t)
    (λ p upper c. covers_trans upper (state_with_only_a10 v false p true) (state_with_only_a10 w false p true) (entry_length w false p true ∙ sym (entry_length v false p true)) c (entry_covers v w p low))
    (omega (arith, a.spare)) like.spare
    (taken_fewer (λ p. owed 11 (enter (irq_key plan p) (state_with_only_a10 v false p true))) (DutyHolds cert node s q) plan s.ie t.ie s.ccpn t.ccpn (sym a.ie ∙ like.ie) above (h q))

-- each of well-formed values is well-formed, and so is what stands for those past the last
any_well : IsWellFormed any_val
any_well = (omega arith, omega arith, omega arith)

at_well : (vs : List Val) (i : ℕ) → AreWellFormed vs → IsWellFormed (get_or vs i any_val)
at_well vs i w =
    elim (cases_lt i (length vs)) [
      | inl h ↦ w i h
      | inr h ↦ rw (get_or-eq_default vs any_val h) any_well
    ]

-- A10 of the next point of a walk
pub stack_well : (node : NodeData) (done left after : List Point) (p : Point) → All (λ (q : Point). AreWellFormed (q.state).regs) node.points → node.points ≡ done ++ left → left ≡ p ∷ after → IsWellFormed (slice_index_or (p.state).regs 22 any_val)
stack_well node done left after p well split next =
    let all : All (λ (q : Point). AreWellFormed (q.state).regs) (done ++ p ∷ after) =
    subst (λ (l : List Point). All (λ (q : Point). AreWellFormed (q.state).regs) l) (split ∙ ap (λ (l : List Point). done ++ l) next) well in
    at_well (p.state).regs 22 (All-head (λ (q : Point). AreWellFormed (q.state).regs) p after (All-right (λ (q : Point). AreWellFormed (q.state).regs) done (p ∷ after) all))

-- A10 of a context is well-formed, and a value of the limits
stack_of_context_well : (plan : PlanData) (cert : CertData) (o : Option InterruptContext) → IfSome o (InterruptsHoldInContext plan cert) → IfSome o (λ a. IsWellFormed a.sp)
stack_of_context_well plan cert None h = tt
stack_of_context_well plan cert (Some a) h = (h.sp).well

pub stacks_well : (plan : PlanData) (cert : CertData) (kept : LastInterrupts) → LastInterruptsHold plan cert kept → HasWellFormedSps kept
stacks_well plan cert kept h = record { last = stack_of_context_well plan cert kept.last h.last; before = stack_of_context_well plan cert kept.before h.before }

-- so the entries hold in a state below a kept context
pub covered_holds : (plan : PlanData) (cert : CertData) (node : NodeData) (o : Option InterruptContext) (t : State) → IfSome o (InterruptsHoldInContext plan cert) → IsSomeAnd o (λ a. FitsContext a node t) → InterruptsHold plan cert node t
covered_holds plan cert node None t h a = absurd a
covered_holds plan cert node (Some x) t h a = h.holds node t a

-- a property of a kept context
pub some_context : (o : Option InterruptContext) (a : InterruptContext) (P : InterruptContext → Type 0) → o ≡ Some a → P a → IsSomeAnd o P
some_context o a P e h = subst (λ (x : Option InterruptContext). IsSomeAnd x P) (sym e) h
