-- A state that covers another also covers it on each side of a branch that lowers no counter.
use Rattle.std.proofs.Common.{◌≡◌, ℕ, ◌<◌, ◌∷◌, [], Bool, true, false, List, length, set, get_or, Option, Some, None, inl, inr, arith, refl, sym, subst, ◌∙◌, eq-eqb, ◌==◌}
use Rattle.std.specs.Prelude.{IfSome, IsSomeAnd}
use Rattle.std.specs.List.{list_any}
use Rattle.std.proofs.lemmas.Bool.{cases_Bool, eqb-true}
use Rattle.std.proofs.lemmas.List.{get_or-set_same, get_or-set_other}
use Rattle.std.proofs.Math.ListN.{length-set}
use Rattle.tcd_plan.specs.PlanData.{PlanData}
use Rattle.tc_isa.specs.declared.shapes.Cond.{Cond}
use Rattle.tc_isa.specs.declared.shapes.Arg.{Arg}
use Rattle.tc_isa.specs.declared.shapes.Arg.TheVariants.{Reg, Word}
use Rattle.tc_isa.specs.declared.shapes.Shape.TheVariants.{Branch}
use Rattle.value_domain.specs.declared.values.Val.{Val}
use Rattle.value_domain.specs.declared.states.State.{State}
use Rattle.value_domain.specs.Limits.{Limits}
use Rattle.value_domain.specs.Sets.{AreAmong}
use Rattle.value_domain.specs.Values.{any_val, members, cover, IsInLattice, IsBelow}
use Rattle.value_domain.specs.State.{AreInLattice, Covers}
use Rattle.value_domain.proofs.CoverLaws.{cover_mono}
use Rattle.vd_transfer.specs.Refinement.{is_side_taken, kept_left_words, kept_right_words, kept_self_compared_words}
use Rattle.value_domain.specs.Meets.{cover_if_any}
use Rattle.vd_transfer.specs.Registers.{register_slot, with_slot_value, register_value_at, reg_of, arg_of, is_same_register}
use Rattle.vd_transfer.specs.Branches.{state_with_narrowed_register, state_with_narrowed_operands, state_on_side, with_decremented_counter, refine_of}
use Rattle.value_domain.proofs.MeetLaws.{among_filter}
use Rattle.depth_cert.specs.declared.points.Point.{Point}
use Rattle.depth_cert.specs.Points.{find_point}
use Rattle.depth_cert.specs.Nodes.{NodeData}
use Rattle.depth_cert.specs.Certs.{CertData}
use Rattle.cfg_recover.specs.Duties.{branch_duty}
use Rattle.cfg_recover.specs.RulesHoldOrFail.{HasCoveringPoint}
use Rattle.depth_check.specs.LeastBroken.{FindsLeastBroken}
use Rattle.depth_check.specs.DutiesHold.{DutiesHold}
use Rattle.depth_check.proofs.Deciding.{yes}
use Rattle.depth_check.proofs.DutyLaws.{nothing_found, point_found}
use Rattle.depth_check.proofs.Frames.{ImpliedBy-trans}
use Rattle.packed_cert.proofs.NodeFinds.{covers_same}

-- ---- covering
-- covering is transitive
pub covers_trans : (upper s t : State) → length t.regs ≡ length s.regs → Covers upper s → Covers s t → Covers upper t
covers_trans upper s t len c d = record {
  regs = λ r h x m. c.regs r (omega arith) x (d.regs r h x m);
  context = ((λ i. (c.context).0 ((d.context).0 i)), omega (arith, (c.context).1, (d.context).1), (λ l. (d.context).2 ((c.context).2 l)));
  locals = ImpliedBy-trans upper.locals.items s.locals.items t.locals.items c.locals d.locals;
}

-- so a point that covers the first covers the second
pub found_more : (o : Option Point) (s t : State) → ((upper : State) → Covers upper s → Covers upper t) → IsSomeAnd o (λ (p : Point). Covers p.state s) → IsSomeAnd o (λ (p : Point). Covers p.state t)
found_more None s t f h = absurd h
found_more (Some p) s t f h = f p.state h

-- ---- values
-- the cover of some members of a value is below the value
cover_below : (b : Limits) (v z : Val) (xs : List ℕ) → IsInLattice b v → AreAmong xs (members v) → cover_if_any b xs ≡ Some z → IsBelow z v
cover_below b v z [] value there e = absurd (let f : None ≡ Some z = e in cc)
cover_below b v z (x ∷ xs) value there e =
    let same : cover b (x ∷ xs) ≡ z = (let f : Some (cover b (x ∷ xs)) ≡ Some z = e in cc) in
    subst (λ (u : Val). IsBelow u v) same (subst (λ (u : Val). IsBelow (cover b (x ∷ xs)) u) value.own (cover_mono b (x ∷ xs) (members v) (omega arith) there))

place_below : (b : Limits) (plan : PlanData) (s : State) (r : ℕ) (o : Option ℕ) (z : Val) (xs : List ℕ) → AreInLattice b s.regs → AreAmong xs (members (register_value_at plan s r o)) → cover_if_any b xs ≡ Some z
    → IfSome o (λ i. i < length s.regs → IsBelow z (get_or s.regs i any_val))
place_below b plan s r None z xs values there e = tt
place_below b plan s r (Some i) z xs values there e = λ lt. cover_below b (get_or s.regs i any_val) z xs (values i lt) there e

-- ---- states
length_set_at : (t : State) (v : Val) (o : Option ℕ) → length (with_slot_value t v o).regs ≡ length t.regs
length_set_at t v None = refl
length_set_at t v (Some i) = length-set t.regs i v

pub apart : (r i : ℕ) → (r == i) ≡ false → r ≡ i → ⊥
apart r i n e = cc (sym n ∙ eq-eqb r i e)

value_covers : (s t : State) (v : Val) (i r : ℕ) → length t.regs ≡ length s.regs → Covers s t → (i < length s.regs → IsBelow v (get_or s.regs i any_val)) → r < length t.regs
    → IsBelow (get_or (set t.regs i v) r any_val) (get_or s.regs r any_val)
value_covers s t v i r len c h lt =
    elim (cases_Bool (r == i)) [
      | inl e ↦
          let same : r ≡ i = eqb-true r i e in
          let here : get_or (set t.regs i v) i any_val ≡ v = get_or-set_same t.regs i v any_val (omega (arith, same, lt)) in
          let below : IsBelow v (get_or s.regs i any_val) = h (omega (arith, same, lt, len)) in
          subst (λ (k : ℕ). IsBelow (get_or (set t.regs i v) k any_val) (get_or s.regs k any_val)) (sym same) (subst (λ (u : Val). IsBelow u (get_or s.regs i any_val)) (sym here) below)
      | inr n ↦
          subst (λ (u : Val). IsBelow u (get_or s.regs r any_val)) (sym (get_or-set_other t.regs i r v any_val (apart r i n))) (c.regs r lt)
    ]

set_covers : (s t : State) (v : Val) (o : Option ℕ) → length t.regs ≡ length s.regs → Covers s t → IfSome o (λ i. i < length s.regs → IsBelow v (get_or s.regs i any_val)) → Covers s (with_slot_value t v o)
set_covers s t v None len c h = c
set_covers s t v (Some i) len c h = record {
  regs = λ r lt. (let within : r < length (set t.regs i v) = lt in value_covers s t v i r len c h (omega (arith, within, length-set t.regs i v)));
  context = c.context;
  locals = c.locals;
}

one_covers : (b : Limits) (plan : PlanData) (s : State) (x : ℕ) (xs : List ℕ) (o : Option Val) → AreInLattice b s.regs → AreAmong xs (members (reg_of plan s x)) → cover_if_any b xs ≡ o → IfSome (state_with_narrowed_register s x o) (Covers s)
one_covers b plan s x xs None values there e = tt
one_covers b plan s x xs (Some z) values there e = set_covers s s z (register_slot x) refl (covers_same s) (place_below b plan s x (register_slot x) z xs values there e)

two_covers : (b : Limits) (plan : PlanData) (s : State) (x : ℕ) (y : Arg) (xs ys : List ℕ) (o q : Option Val) → AreInLattice b s.regs → AreAmong xs (members (reg_of plan s x)) → AreAmong ys (members (arg_of plan s y))
    → cover_if_any b xs ≡ o → cover_if_any b ys ≡ q → IfSome (state_with_narrowed_operands s x y o q) (Covers s)
two_covers b plan s x y xs ys None q values left right e f = tt
two_covers b plan s x y xs ys (Some v) None values left right e f = tt
two_covers b plan s x (Word k) xs ys (Some v) (Some w) values left right e f = one_covers b plan s x xs (Some v) values left e
two_covers b plan s x (Reg r) xs ys (Some v) (Some w) values left right e f =
    set_covers s (with_slot_value s v (register_slot x)) w (register_slot r) (length_set_at s v (register_slot x)) (one_covers b plan s x xs (Some v) values left e) (place_below b plan s r (register_slot r) w ys values right f)

-- ---- sides
left_within : (test : Cond) (side : Bool) (vs ws : List ℕ) → AreAmong (kept_left_words test side vs ws) vs
unfolding kept_left_words
left_within test side vs ws z i = (among_filter (λ x. list_any (λ y. is_side_taken test side x y) ws) z vs i).0

right_within : (test : Cond) (side : Bool) (vs ws : List ℕ) → AreAmong (kept_right_words test side vs ws) ws
unfolding kept_right_words
right_within test side vs ws z i = (among_filter (λ y. list_any (λ x. is_side_taken test side x y) vs) z ws i).0

both_within : (test : Cond) (side : Bool) (vs : List ℕ) → AreAmong (kept_self_compared_words test side vs) vs
unfolding kept_self_compared_words
both_within test side vs z i = (among_filter (λ z. is_side_taken test side z z) z vs i).0

side_covers : (b : Limits) (plan : PlanData) (test : Cond) (x : ℕ) (y : Arg) (s : State) (side : Bool) → AreInLattice b s.regs → IfSome (state_on_side b plan test x y s side) (Covers s)
side_covers b plan test x y s side values =
    elim (cases_Bool (is_same_register x y)) [
      | inl one ↦ rw one (one_covers b plan s x (kept_self_compared_words test side (members (reg_of plan s x))) _ values (both_within test side (members (reg_of plan s x))) refl)
      | inr two ↦
          rw two
          (two_covers b plan s x y (kept_left_words test side (members (reg_of plan s x)) (members (arg_of plan s y))) (kept_right_words test side (members (reg_of plan s x)) (members (arg_of plan s y))) _ _ values
          (left_within test side (members (reg_of plan s x)) (members (arg_of plan s y))) (right_within test side (members (reg_of plan s x)) (members (arg_of plan s y))) refl refl)
    ]

unlowered : (b : Limits) (plan : PlanData) (x : ℕ) (o : Option State) (P : State → Type 0) → IfSome o P → IfSome (with_decremented_counter b plan x false o) P
unlowered b plan x None P h = h
unlowered b plan x (Some t) P h = h

pub branch_covers : (b : Limits) (plan : PlanData) (test : Cond) (x : ℕ) (y : Arg) (by : ℕ) (lowers : Bool) (s : State) (side : Bool) → lowers ≡ false → AreInLattice b s.regs → IfSome (refine_of b plan (Branch test x y by lowers) s side) (Covers s)
unfolding refine_of
branch_covers b plan test x y by true s side e values = absurd (let f : true ≡ false = e in cc)
branch_covers b plan test x y by false s side e values = unlowered b plan x (state_on_side b plan test x y s side) (Covers s) (side_covers b plan test x y s side values)

-- ---- duties
-- a jump to a point that covers the state is met
pub side_found : (cert : CertData) (node : NodeData) (s : State) (to : ℕ) (o : Option State) → IfSome o (λ t. length t.regs ≡ length s.regs) → IfSome o (Covers s) → HasCoveringPoint node to s → FindsLeastBroken (DutiesHold cert node s (branch_duty to o)) None
side_found cert node s to None len c h = nothing_found cert node s
side_found cert node s to (Some t) len c h = point_found cert node s t to true (yes _ (found_more (find_point to node.points) s t (λ upper d. covers_trans upper s t len d c) h))
