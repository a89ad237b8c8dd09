-- The effects of instructions grow with the state.
use Rattle.std.proofs.Common.{◌≡◌, ℕ, ◌+◌, ◌-◌, ◌^◌, ◌<◌, inl, inr, Bool, true, false, cond, IsTrue, List, [], ◌∷◌, length, refl, sym, ap, ◌∙◌, subst, arith, get_or, Option, Some, None}
use Rattle.std.specs.List.{list_any}
use Rattle.std.proofs.lemmas.Bool.{cases_Bool}
use Rattle.tcd_plan.specs.PlanData.{PlanData}
use Rattle.tc_isa.specs.declared.shapes.Arg.{Arg}
use Rattle.tc_isa.specs.declared.shapes.Arg.TheVariants.{Reg, Word}
use Rattle.tc_isa.specs.declared.shapes.Cond.{Cond}
use Rattle.tc_isa.specs.declared.shapes.Op.{Op}
use Rattle.tc_isa.specs.declared.shapes.Op.TheVariants.{Add, Sub, Sh}
use Rattle.tc_isa.specs.declared.shapes.Shape.{Shape}
use Rattle.tc_isa.specs.declared.shapes.Shape.TheVariants.{Compute, Scaled, Load, Store, Branch, Svlcx, Rslcx, Bisr, Enable, Disable, Mfcr}
use Rattle.tc_isa.specs.InBounds.{IsArgInBounds, IsShapeInBounds}
use Rattle.value_domain.specs.declared.values.Val.{Val}
use Rattle.value_domain.specs.declared.states.State.{State}
use Rattle.value_domain.specs.Limits.{Limits, AreLimits}
use Rattle.value_domain.specs.Sets.{Among, AreAmong}
use Rattle.value_domain.specs.Values.{IsInLattice, IsBelow, any_val, members, cover, word_val}
use Rattle.value_domain.specs.State.{Covers, AreBelow, is_lower_slot}
use Rattle.value_domain.proofs.CoverLaws.{cover_mono}
use Rattle.value_domain.proofs.RangeLaws.{one_value, cover_value, members_below, any_value}
use Rattle.vd_transfer.specs.Operations.{operation_value}
use Rattle.vd_transfer.specs.Refinement.{kept_left_words, kept_right_words, kept_self_compared_words, is_side_taken}
use Rattle.value_domain.specs.Meets.{cover_if_any}
use Rattle.vd_transfer.specs.Registers.{reg_of, arg_of, with_reg_value, state_after_reg_write, with_arg_value, is_same_register}
use Rattle.vd_transfer.specs.EffectsOnStates.{state_with_increased_base, address_by_mode, with_lower_unknown_from, transfer_of, address_of_access, state_after_lower_save, state_after_lower_restore}
use Rattle.vd_transfer.specs.Branches.{state_with_narrowed_register, state_with_narrowed_operands, state_on_side, with_decremented_counter, refine_of}
use Rattle.vd_transfer.specs.Soundness.{MeetSoundnessPremises}
use Rattle.vd_transfer.proofs.HoldLaws.{reg_value, arg_value}
use Rattle.value_domain.proofs.MeetLaws.{filter_has, among_any, among_filter, any_among}
use Rattle.vd_transfer.proofs.OpLaws.{monotone, within_members}
use Rattle.vd_transfer.proofs.RegisterLaws.{length-forgotten, get_or-forgotten}
use Rattle.vd_transfer.proofs.ValueLaws.{value_of_value}
use Rattle.depth_maker.proofs.StateGrowth.{implied_last, implied_take, implied_at, same_locals, reg_grows, arg_grows, set_covers, write_covers, setting_set, setting_write}

pub word_value : (b : Limits) (w : ℕ) → AreLimits b → w < 2 ^ 32 → IsInLattice b (word_val w)
word_value b w limits small = one_value b w limits small

-- values that are forgotten in both
forgotten_below : (vs ws : List Val) → length vs ≡ length ws → AreBelow vs ws → AreBelow (with_lower_unknown_from 0 vs) (with_lower_unknown_from 0 ws)
forgotten_below vs ws same below r lt =
    let within : r < length vs = omega (arith, length-forgotten 0 vs) in
    rw (get_or-forgotten 0 vs r any_val within, get_or-forgotten 0 ws r any_val (omega arith))
    (elim (cases_Bool (is_lower_slot (0 + r))) [ inl t ↦ rw t (λ x m. m) | inr f ↦ rw f (below r within) ])

module _ (b : Limits) (p : PlanData) (s t : State) (low : MeetSoundnessPremises b p s) (high : MeetSoundnessPremises b p t) (c : Covers t s) where
  -- ---- operations
  op_grows : (op : Op) (x y : Arg) → IsArgInBounds x → IsArgInBounds y → IsBelow (operation_value b op (arg_of p s x) (arg_of p s y)) (operation_value b op (arg_of p t x) (arg_of p t y))
  op_grows op x y ix iy =
      monotone b op (arg_of p s x) (arg_of p s y) (arg_of p t x) (arg_of p t y) low.limits (arg_value b p s x low ix) (arg_value b p s y low iy) (arg_value b p t x high ix) (arg_value b p t y high iy)
      (arg_grows p s t low.regs high.regs c.regs x) (arg_grows p s t low.regs high.regs c.regs y)

  scaled_grows : (base index n : ℕ) → base < 32 → index < 32 → n < 4
      → IsBelow (operation_value b Add (reg_of p s base) (operation_value b Sh (reg_of p s index) (word_val n))) (operation_value b Add (reg_of p t base) (operation_value b Sh (reg_of p t index) (word_val n)))
  scaled_grows base index n lb li ln =
      let wn = word_value b n low.limits (omega arith) in
      let vs = value_of_value b Sh (reg_of p s index) (word_val n) low.limits (reg_value b p s index low) wn in
      let vt = value_of_value b Sh (reg_of p t index) (word_val n) low.limits (reg_value b p t index high) wn in
      let inner = monotone b Sh (reg_of p s index) (word_val n) (reg_of p t index) (word_val n) low.limits (reg_value b p s index low) wn (reg_value b p t index high) wn
      (reg_grows p s t low.regs high.regs c.regs index) (λ x m. m) in
      monotone b Add (reg_of p s base) (operation_value b Sh (reg_of p s index) (word_val n)) (reg_of p t base) (operation_value b Sh (reg_of p t index) (word_val n)) low.limits
      (reg_value b p s base low) vs (reg_value b p t base high) vt (reg_grows p s t low.regs high.regs c.regs base) inner

  -- ---- accesses
  pub base_covers : (base : Arg) (offset : ℕ) (after : Bool) → IsArgInBounds base → offset < 2 ^ 32 → Covers (state_with_increased_base b p t base offset after) (state_with_increased_base b p s base offset after)
  base_covers (Word w) offset after is small = c
  base_covers (Reg r) offset false is small = c
  base_covers (Reg r) offset true is small = write_covers s t r _ _ low.regs high.regs c (op_grows Add (Reg r) (Word offset) is small)

  pub access_grows : (base : Arg) (offset : ℕ) (after : Bool) → IsArgInBounds base → offset < 2 ^ 32 → IsBelow (address_by_mode b p s base offset after) (address_by_mode b p t base offset after)
  access_grows base offset true is small = arg_grows p s t low.regs high.regs c.regs base
  access_grows base offset false is small = op_grows Add base (Word offset) is small

-- the base register that is increased leaves a setting
pub base_setting : (b : Limits) (p : PlanData) (s : State) (base : Arg) (offset : ℕ) (after : Bool) → MeetSoundnessPremises b p s → IsArgInBounds base → offset < 2 ^ 32 → MeetSoundnessPremises b p (state_with_increased_base b p s base offset after)
base_setting b p s (Word w) offset after h is small = h
base_setting b p s (Reg r) offset false h is small = h
base_setting b p s (Reg r) offset true h is small = setting_write b p s r _ h (value_of_value b Add (reg_of p s r) (word_val offset) h.limits (reg_value b p s r h) (word_value b offset h.limits small))

pub access_value : (b : Limits) (p : PlanData) (s : State) (base : Arg) (offset : ℕ) (after : Bool) → MeetSoundnessPremises b p s → IsArgInBounds base → offset < 2 ^ 32 → IsInLattice b (address_by_mode b p s base offset after)
access_value b p s base offset true h is small = arg_value b p s base h is
access_value b p s base offset false h is small = value_of_value b Add (arg_of p s base) (word_val offset) h.limits (arg_value b p s base h is) (word_value b offset h.limits small)

-- ---- transfers
module _ (b : Limits) (p : PlanData) (s t : State) (low : MeetSoundnessPremises b p s) (high : MeetSoundnessPremises b p t) (c : Covers t s) where
  saved_covers : Covers (state_after_lower_save t) (state_after_lower_save s)
  saved_covers = record { regs = c.regs; context = c.context; locals = implied_last t.locals.items s.locals.items t.lower s.lower c.context.2 c.locals }

  last_flag : IsTrue (get_or t.locals.items (length t.locals.items - 1) false) → IsTrue (get_or s.locals.items (length s.locals.items - 1) false)
  last_flag e = implied_at t.locals.items s.locals.items (length s.locals.items - 1) c.locals (rw (← same_locals t s c) e)

  restored_covers : Covers (state_after_lower_restore t) (state_after_lower_restore s)
  restored_covers = record {
    regs = forgotten_below s.regs t.regs (low.regs ∙ sym high.regs) c.regs;
    context = (c.context.0, c.context.1, last_flag);
    locals = rw (same_locals t s c) (implied_take t.locals.items s.locals.items (length s.locals.items - 1) c.locals);
  }

  pub transfer_covers : (shape : Shape) (v w : Val) → IsShapeInBounds shape → IsBelow v w → Covers (transfer_of b p shape t w) (transfer_of b p shape s v)
  unfolding transfer_of
  transfer_covers (Compute op dst x y) v w is here = write_covers s t dst _ _ low.regs high.regs c (op_grows b p s t low high c op x y is.1 is.2)
  transfer_covers (Scaled dst base index n) v w is here = write_covers s t dst _ _ low.regs high.regs c (scaled_grows b p s t low high c base index n is.1 is.2 is.3)
  transfer_covers (Load dst base offset size signed after) v w is here =
      write_covers (state_with_increased_base b p s base offset after) (state_with_increased_base b p t base offset after) dst v w (base_setting b p s base offset after low is.1 is.2).regs (base_setting b p t base offset after high is.1 is.2).regs
      (base_covers b p s t low high c base offset after is.1 is.2) here
  transfer_covers (Store src base offset size after) v w is here = base_covers b p s t low high c base offset after is.1 is.2
  transfer_covers Svlcx v w is here = saved_covers
  transfer_covers Rslcx v w is here = restored_covers
  transfer_covers (Bisr n) v w is here = record { regs = c.regs; context = ((λ e. refl), omega arith, c.context.2); locals = saved_covers.locals }
  transfer_covers Enable v w is here = record { regs = c.regs; context = ((λ e. refl), c.context.1, c.context.2); locals = c.locals }
  transfer_covers Disable v w is here = record { regs = c.regs; context = ((λ e. e), c.context.1, c.context.2); locals = c.locals }
  transfer_covers (Mfcr dst number) v w is here = write_covers s t dst any_val any_val low.regs high.regs c (λ x m. m)
  transfer_covers _ v w is here = c

  pub address_grows : (shape : Shape) → IsShapeInBounds shape → IsBelow (address_of_access b p shape s) (address_of_access b p shape t)
  unfolding address_of_access
  address_grows (Compute op dst x y) is = λ x m. m
  address_grows (Load dst base offset size signed after) is = access_grows b p s t low high c base offset after is.1 is.2
  address_grows (Store src base offset size after) is = access_grows b p s t low high c base offset after is.1 is.2
  address_grows (Branch test x y by lowers) is = λ x m. m
  address_grows _ is = λ x m. m

pub address_value : (b : Limits) (p : PlanData) (shape : Shape) (s : State) → MeetSoundnessPremises b p s → IsShapeInBounds shape → IsInLattice b (address_of_access b p shape s)
unfolding address_of_access
address_value b p (Load dst base offset size signed after) s h is = access_value b p s base offset after h is.1 is.2
address_value b p (Store src base offset size after) s h is = access_value b p s base offset after h is.1 is.2
address_value b p _ s h is = any_value b h.limits

-- ---- refinement
-- the members that are kept of a larger set have a larger cover
kept_more : (b : Limits) (xs ys : List ℕ) (v : Val) → AreAmong xs ys → cover_if_any b xs ≡ Some v → (w : Val) × (cover_if_any b ys ≡ Some w) × IsBelow v w
kept_more b [] ys v there e = absurd (let f : None ≡ Some v = e in cc)
kept_more b (x ∷ xs) [] v there e = absurd (there x (inl refl))
kept_more b (x ∷ xs) (y ∷ ys) v there e =
    (cover b (y ∷ ys), refl, subst (λ (u : Val). IsBelow u (cover b (y ∷ ys))) (let f : Some (cover b (x ∷ xs)) ≡ Some v = e in cc) (cover_mono b (x ∷ xs) (y ∷ ys) (omega arith) there))

kept_value : (b : Limits) (xs : List ℕ) (v : Val) → AreLimits b → ((z : ℕ) → Among z xs → z < 2 ^ 32) → cover_if_any b xs ≡ Some v → IsInLattice b v
kept_value b [] v limits below e = absurd (let f : None ≡ Some v = e in cc)
kept_value b (x ∷ xs) v limits below e = subst (λ (u : Val). IsInLattice b u) (let f : Some (cover b (x ∷ xs)) ≡ Some v = e in cc) (cover_value b (x ∷ xs) x limits (inl refl) below)

left_more : (cond : Cond) (side : Bool) (vs ws vs2 ws2 : List ℕ) → AreAmong vs vs2 → AreAmong ws ws2 → AreAmong (kept_left_words cond side vs ws) (kept_left_words cond side vs2 ws2)
unfolding kept_left_words
left_more cond side vs ws vs2 ws2 there here z i =
    let k = among_filter (λ x. list_any (λ y. is_side_taken cond side x y) ws) z vs i in
    let a = any_among (λ y. is_side_taken cond side z y) ws k.1 in
    filter_has (λ x. list_any (λ y. is_side_taken cond side x y) ws2) z vs2 (there z k.0) (among_any (λ y. is_side_taken cond side z y) a.0 ws2 (here a.0 a.1) a.2)

right_more : (cond : Cond) (side : Bool) (vs ws vs2 ws2 : List ℕ) → AreAmong vs vs2 → AreAmong ws ws2 → AreAmong (kept_right_words cond side vs ws) (kept_right_words cond side vs2 ws2)
unfolding kept_right_words
right_more cond side vs ws vs2 ws2 there here z i =
    let k = among_filter (λ y. list_any (λ x. is_side_taken cond side x y) vs) z ws i in
    let a = any_among (λ x. is_side_taken cond side x z) vs k.1 in
    filter_has (λ y. list_any (λ x. is_side_taken cond side x y) vs2) z ws2 (here z k.0) (among_any (λ x. is_side_taken cond side x z) a.0 vs2 (there a.0 a.1) a.2)

both_more : (cond : Cond) (side : Bool) (vs vs2 : List ℕ) → AreAmong vs vs2 → AreAmong (kept_self_compared_words cond side vs) (kept_self_compared_words cond side vs2)
unfolding kept_self_compared_words
both_more cond side vs vs2 there z i = let k = among_filter (λ z. is_side_taken cond side z z) z vs i in filter_has (λ z. is_side_taken cond side z z) z vs2 (there z k.0) k.1

left_of : (cond : Cond) (side : Bool) (vs ws : List ℕ) (z : ℕ) → Among z (kept_left_words cond side vs ws) → Among z vs
unfolding kept_left_words
left_of cond side vs ws z i = (among_filter (λ x. list_any (λ y. is_side_taken cond side x y) ws) z vs i).0

right_of : (cond : Cond) (side : Bool) (vs ws : List ℕ) (z : ℕ) → Among z (kept_right_words cond side vs ws) → Among z ws
unfolding kept_right_words
right_of cond side vs ws z i = (among_filter (λ y. list_any (λ x. is_side_taken cond side x y) vs) z ws i).0

both_of : (cond : Cond) (side : Bool) (vs : List ℕ) (z : ℕ) → Among z (kept_self_compared_words cond side vs) → Among z vs
unfolding kept_self_compared_words
both_of cond side vs z i = (among_filter (λ z. is_side_taken cond side z z) z vs i).0

-- a possible state, and a possible one that covers it
abbrev pub GrowsTo : Limits → PlanData → Option State → Option State → Type 0
GrowsTo b p o o2 = (s : State) → o ≡ Some s → MeetSoundnessPremises b p s × ((t : State) × (o2 ≡ Some t) × MeetSoundnessPremises b p t × Covers t s)

module _ (b : Limits) (p : PlanData) (s t : State) (low : MeetSoundnessPremises b p s) (high : MeetSoundnessPremises b p t) (c : Covers t s) where
  one_grows : (x : ℕ) (z z2 : Option Val) → ((v : Val) → z ≡ Some v → IsInLattice b v × ((w : Val) × (z2 ≡ Some w) × IsInLattice b w × IsBelow v w)) → GrowsTo b p (state_with_narrowed_register s x z) (state_with_narrowed_register t x z2)
  one_grows x None z2 h u e = absurd (let f : None ≡ Some u = e in cc)
  one_grows x (Some v) z2 h u e =
      let k = h v refl in
      let f : with_reg_value s x v ≡ u = (let g : Some (with_reg_value s x v) ≡ Some u = e in cc) in (
        subst (λ (u : State). MeetSoundnessPremises b p u) f (setting_set b p s x v low k.0),
        (
          with_reg_value t x k.1.0,
          ap (state_with_narrowed_register t x) k.1.1,
          setting_set b p t x k.1.0 high k.1.2,
          subst (λ (u : State). Covers (with_reg_value t x k.1.0) u) f (set_covers s t x v k.1.0 low.regs high.regs c k.1.3),
        ),
      )

  set_arg_covers : (u1 u2 : State) (y : Arg) (v w : Val) → MeetSoundnessPremises b p u1 → MeetSoundnessPremises b p u2 → Covers u2 u1 → IsBelow v w → Covers (with_arg_value u2 y w) (with_arg_value u1 y v)
  set_arg_covers u1 u2 (Reg r) v w h1 h2 d here = set_covers u1 u2 r v w h1.regs h2.regs d here
  set_arg_covers u1 u2 (Word k) v w h1 h2 d here = d

  set_arg_setting : (u : State) (y : Arg) (v : Val) → MeetSoundnessPremises b p u → IsInLattice b v → MeetSoundnessPremises b p (with_arg_value u y v)
  set_arg_setting u (Reg r) v h value = setting_set b p u r v h value
  set_arg_setting u (Word k) v h value = h

  two_grows : (x : ℕ) (y : Arg) (v w v2 w2 : Option Val) → ((a : Val) → v ≡ Some a → IsInLattice b a × ((d : Val) × (v2 ≡ Some d) × IsInLattice b d × IsBelow a d))
      → ((a : Val) → w ≡ Some a → IsInLattice b a × ((d : Val) × (w2 ≡ Some d) × IsInLattice b d × IsBelow a d)) → GrowsTo b p (state_with_narrowed_operands s x y v w) (state_with_narrowed_operands t x y v2 w2)
  two_grows x y None w v2 w2 h k u e = absurd (let f : None ≡ Some u = e in cc)
  two_grows x y (Some v) None v2 w2 h k u e = absurd (let f : None ≡ Some u = e in cc)
  two_grows x y (Some v) (Some w) v2 w2 h k u e =
      let l = h v refl in
      let r = k w refl in
      let f : with_arg_value (with_reg_value s x v) y w ≡ u = (let g : Some (with_arg_value (with_reg_value s x v) y w) ≡ Some u = e in cc) in
      let s1 = setting_set b p s x v low l.0 in
      let t1 = setting_set b p t x l.1.0 high l.1.2 in
      let c1 = set_covers s t x v l.1.0 low.regs high.regs c l.1.3 in (
        subst (λ (u : State). MeetSoundnessPremises b p u) f (set_arg_setting (with_reg_value s x v) y w s1 r.0),
        (
          with_arg_value (with_reg_value t x l.1.0) y r.1.0,
          ap (λ (o : Option Val). state_with_narrowed_operands t x y o w2) l.1.1 ∙ ap (state_with_narrowed_operands t x y (Some l.1.0)) r.1.1,
          set_arg_setting (with_reg_value t x l.1.0) y r.1.0 t1 r.1.2,
          subst (λ (u : State). Covers (with_arg_value (with_reg_value t x l.1.0) y r.1.0) u) f (set_arg_covers (with_reg_value s x v) (with_reg_value t x l.1.0) y w r.1.0 s1 t1 c1 r.1.3),
        ),
      )

  refined_grows : (test : Cond) (x : ℕ) (y : Arg) (side : Bool) → x < 32 → IsArgInBounds y → GrowsTo b p (state_on_side b p test x y s side) (state_on_side b p test x y t side)
  refined_grows test x y side small is =
      let vx = reg_value b p s x low in
      let wx = reg_value b p t x high in
      let vy = arg_value b p s y low is in
      let wy = arg_value b p t y high is in
      let there : AreAmong (members (reg_of p s x)) (members (reg_of p t x)) = within_members b (reg_of p s x) (reg_of p t x) vx wx (reg_grows p s t low.regs high.regs c.regs x) in
      let here : AreAmong (members (arg_of p s y)) (members (arg_of p t y)) = within_members b (arg_of p s y) (arg_of p t y) vy wy (arg_grows p s t low.regs high.regs c.regs y) in
      elim (cases_Bool (is_same_register x y)) [
        | inl one ↦ rw one (one_grows x _ _ (λ v e.
            let m = kept_more b _ _ v (both_more test side _ _ there) e in (
              kept_value b _ v low.limits (λ z i. members_below (reg_of p s x) vx.well z (both_of test side _ z i)) e,
              (m.0, m.1, kept_value b _ m.0 low.limits (λ z i. members_below (reg_of p t x) wx.well z (both_of test side _ z i)) m.1, m.2),
            )))
        | inr two ↦ rw two (two_grows x y _ _ _ _
            (λ v e.
            let m = kept_more b _ _ v (left_more test side _ _ _ _ there here) e in (
              kept_value b _ v low.limits (λ z i. members_below (reg_of p s x) vx.well z (left_of test side _ _ z i)) e,
              (m.0, m.1, kept_value b _ m.0 low.limits (λ z i. members_below (reg_of p t x) wx.well z (left_of test side _ _ z i)) m.1, m.2),
            ))
            (λ v e.
            let m = kept_more b _ _ v (right_more test side _ _ _ _ there here) e in (
              kept_value b _ v low.limits (λ z i. members_below (arg_of p s y) vy.well z (right_of test side _ _ z i)) e,
              (m.0, m.1, kept_value b _ m.0 low.limits (λ z i. members_below (arg_of p t y) wy.well z (right_of test side _ _ z i)) m.1, m.2),
            )))
      ]

lowered_grows : (b : Limits) (p : PlanData) (x : ℕ) (lowers : Bool) (o o2 : Option State) → x < 32 → GrowsTo b p o o2 → GrowsTo b p (with_decremented_counter b p x lowers o) (with_decremented_counter b p x lowers o2)
lowered_grows b p x lowers None o2 small h u e = absurd (let f : None ≡ Some u = e in cc)
lowered_grows b p x false (Some s) o2 small h u e =
    let k = h s refl in
    let f : s ≡ u = (let g : Some s ≡ Some u = e in cc) in
    (subst (λ (u : State). MeetSoundnessPremises b p u) f k.0, (k.1.0, ap (with_decremented_counter b p x false) k.1.1, k.1.2, subst (λ (u : State). Covers k.1.0 u) f k.1.3))
lowered_grows b p x true (Some s) o2 small h u e =
    let k = h s refl in
    let t = k.1.0 in
    let vs = value_of_value b Sub (reg_of p s x) (word_val 1) (k.0).limits (reg_value b p s x k.0) (word_value b 1 (k.0).limits (omega arith)) in
    let vt = value_of_value b Sub (reg_of p t x) (word_val 1) (k.0).limits (reg_value b p t x k.1.2) (word_value b 1 (k.0).limits (omega arith)) in
    let f : state_after_reg_write s x (operation_value b Sub (reg_of p s x) (word_val 1)) ≡ u = (let g : Some (state_after_reg_write s x (operation_value b Sub (reg_of p s x) (word_val 1))) ≡ Some u = e in cc) in (
      subst (λ (u : State). MeetSoundnessPremises b p u) f (setting_write b p s x _ k.0 vs),
      (
        state_after_reg_write t x (operation_value b Sub (reg_of p t x) (word_val 1)),
        ap (with_decremented_counter b p x true) k.1.1,
        setting_write b p t x _ k.1.2 vt,
        subst (λ (u : State). Covers (state_after_reg_write t x (operation_value b Sub (reg_of p t x) (word_val 1))) u) f
            (write_covers s t x _ _ (k.0).regs (k.1.2).regs k.1.3 (op_grows b p s t k.0 k.1.2 k.1.3 Sub (Reg x) (Word 1) small (omega arith))),
      ),
    )

-- a side of a branch that is possible is possible with a larger state, and leads to a larger state
pub branch_grows : (b : Limits) (p : PlanData) (s t : State) (test : Cond) (x : ℕ) (y : Arg) (by : ℕ) (lowers side : Bool) → MeetSoundnessPremises b p s → MeetSoundnessPremises b p t → Covers t s → IsShapeInBounds (Branch test x y by lowers)
    → GrowsTo b p (refine_of b p (Branch test x y by lowers) s side) (refine_of b p (Branch test x y by lowers) t side)
unfolding refine_of
branch_grows b p s t test x y by lowers side low high c is = lowered_grows b p x lowers (state_on_side b p test x y s side) (state_on_side b p test x y t side) is.0 (refined_grows b p s t low high c test x y side is.0 is.1)
