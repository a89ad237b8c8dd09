-- What a point owes grows with its state.
use Rattle.std.proofs.Common.{◌≡◌, ℕ, ◌+◌, ◌-◌, ◌<◌, ◌≤◌, inl, inr, Bool, true, false, not, cond, IsTrue, List, [], length, get_or, take, drop, replicate, refl, ◌∙◌, arith, Some, Contains, eqb, ltb, leb, length-take-le, get_or-take, get_or-drop, ◌&&◌, if◌then◌else◌}
use Rattle.std.specs.Prelude.{filter}
use Rattle.std.proofs.lemmas.Bool.{cases_Bool, cases_lt, ltb-true, lt-ltb, le-ltb, leb-true, and_parts, or_cases}
use Rattle.std.proofs.lemmas.List.{length-replicate, get_or_append_left, get_or-append_right}
use Rattle.elf_image.specs.Images.{ImageData, IsImage}
use Rattle.tcd_plan.specs.PlanData.{PlanData}
use Rattle.tc_isa.specs.declared.shapes.Arg.{Arg}
use Rattle.tc_isa.specs.declared.shapes.Cond.{Cond}
use Rattle.tc_isa.specs.declared.shapes.Shape.{Shape}
use Rattle.tc_isa.specs.declared.shapes.Shape.TheVariants.{Compute, Load, Store, Branch, Jump, Call, Ret, Rfe, Syscall}
use Rattle.tc_isa.specs.InBounds.{IsShapeInBounds}
use Rattle.tc_machine.specs.Instructions.{wrapping_sum}
use Rattle.value_domain.specs.declared.values.Val.{Val}
use Rattle.value_domain.specs.declared.states.State.{State}
use Rattle.value_domain.specs.Limits.{Limits}
use Rattle.value_domain.specs.Values.{IsBelow, any_val, word_val}
use Rattle.value_domain.specs.State.{Covers, AreBelow, is_lower_slot}
use Rattle.vd_transfer.specs.Branches.{refine_of}
use Rattle.vd_transfer.specs.EffectsOnStates.{address_of_access}
use Rattle.vd_transfer.specs.Registers.{with_reg_value}
use Rattle.vd_transfer.specs.Soundness.{MeetSoundnessPremises}
use Rattle.vd_transfer.proofs.HoldLaws.{same_length}
use Rattle.store_ranges.proofs.Growth.{loads_grow}
use Rattle.depth_cert.specs.declared.keys.Key.{Key}
use Rattle.cfg_recover.specs.Code.{IsCode}
use Rattle.cfg_recover.specs.Entries.{handler_entry_sp_of, state_with_only_a10, call_entry, aln_entry, sys_entry}
use Rattle.depth_cert.specs.Exits.{lower_values, exit_of_state, values_after_return_from, ExitCovers}
use Rattle.store_ranges.specs.Accesses.{are_aligned}
use Rattle.cfg_recover.specs.LocalFaults.{IsFaultless}
use Rattle.cfg_recover.specs.Duties.{jump, Owed, owed, value_loaded_by_shape, may_be_misaligned, duties_of}
use Rattle.cfg_recover.proofs.CodeLaws.{IsCode-bounded}
use Rattle.cfg_recover.proofs.EntryLaws.{lower_length, entry_length}
use Rattle.depth_cert.proofs.ExitValues.{after-at, with_lower_length}
use Rattle.cfg_recover.proofs.DutyView.{DutyAt, next, straight, taken, target, called, called_back, system, system_back, misaligned, interrupt, returns, resumes, duty_at, duty_listed}
pub use Rattle.cfg_recover.proofs.Members.{contained_map, contained_flat, contained_filter}
use Rattle.cfg_recover.proofs.Members.{contains_filter}
use Rattle.depth_maker.specs.DutiesMonotone.{IsDutyBelow, IsOwedBelow, DutiesAreMonotone, ReturnStatesAreMonotone}
use Rattle.depth_maker.proofs.StateGrowth.{reg_grows, set_covers}
use Rattle.depth_maker.proofs.EffectGrowth.{transfer_covers, address_grows, address_value, branch_grows}
use Rattle.depth_maker.proofs.OwnGrowth.{targets_within, aligned_falls, setting_of}

-- what isn't aligned below isn't aligned above
not_falls : (a b : Bool) → (b ≡ true → a ≡ true) → not a ≡ true → not b ≡ true
not_falls true true h e = e
not_falls false true h e = h refl
not_falls a false h e = refl

-- ---- the values of the lower registers
lower-d : (regs : List Val) (r : ℕ) → length regs ≡ 27 → r < 8 → get_or (lower_values regs) r any_val ≡ get_or regs r any_val
lower-d regs r len lt = get_or_append_left (take 8 regs) (take 6 (drop 16 regs)) any_val r (omega (arith, length-take-le 8 regs (omega arith))) ∙ get_or-take 8 regs r any_val lt

lower-a : (regs : List Val) (r : ℕ) → length regs ≡ 27 → 8 ≤ r → r < 14 → get_or (lower_values regs) r any_val ≡ get_or regs (16 + (r - 8)) any_val
lower-a regs r len low high =
    get_or-append_right (take 8 regs) (take 6 (drop 16 regs)) 8 r any_val (length-take-le 8 regs (omega arith)) low ∙ get_or-take 6 (drop 16 regs) (r - 8) any_val (omega arith)
    ∙ get_or-drop 16 regs (r - 8) any_val

-- the place of a lower register's value in a state
pub lower-at : (regs : List Val) (r : ℕ) → length regs ≡ 27 → r < 14 → (i : ℕ) × (i < 27) × (get_or (lower_values regs) r any_val ≡ get_or regs i any_val)
lower-at regs r len lt =
    elim (cases_lt r 8) [
      | inl d ↦ (r, omega arith, lower-d regs r len d)
      | inr a ↦ (16 + (r - 8), omega arith, lower-a regs r len a lt)
    ]

lower_below : (vs ws : List Val) → length vs ≡ 27 → length ws ≡ 27 → AreBelow vs ws → AreBelow (lower_values vs) (lower_values ws)
lower_below vs ws lv lw below r lt =
    let within : r < 14 = omega (arith, lower_length vs lv) in
    elim (cases_lt r 8) [
      | inl d ↦ rw (lower-d vs r lv d, lower-d ws r lw d) (below r (omega arith))
      | inr a ↦ rw (lower-a vs r lv a within, lower-a ws r lw a within) (below (16 + (r - 8)) (omega arith))
    ]

pub exit_covers : (s t : State) → length s.regs ≡ 27 → length t.regs ≡ 27 → Covers t s → ExitCovers (exit_of_state t) (exit_of_state s)
exit_covers s t ls lt c = record { lower = lower_below s.regs t.regs ls lt c.regs; enabled = c.context.0; priority = c.context.1 }

-- a lower register's place in an exit
pub lower_place : (i : ℕ) → is_lower_slot i ≡ true → cond (ltb i 8) i (i - 8) < 14
lower_place i e =
    elim (or_cases (ltb i 8) (leb 16 i && ltb i 22) e) [
      | inl d ↦ rw d (let lt = ltb-true i 8 d in omega arith)
      | inr a ↦ let h = and_parts (leb 16 i) (ltb i 22) a in let low = leb-true 16 i h.0 in let high = ltb-true i 22 h.1 in rw (le-ltb i 8 (omega arith)) (omega arith)
    ]

after_regs : (vs ws xs ys : List Val) → length vs ≡ 27 → length ws ≡ 27 → length xs ≡ 14 → AreBelow vs ws → AreBelow xs ys → AreBelow (values_after_return_from 0 xs vs) (values_after_return_from 0 ys ws)
after_regs vs ws xs ys lv lw lx below there r lt =
    let within : r < length vs = omega (arith, with_lower_length xs vs) in
    rw (after-at xs vs r within, after-at ys ws r (omega arith))
    (elim (cases_Bool (is_lower_slot r)) [
      | inl t ↦ rw t (there (cond (ltb r 8) r (r - 8)) (omega (arith, lower_place r t, lx)))
      | inr f ↦ rw f (below r within)
    ])

pub after_grows : ReturnStatesAreMonotone
after_grows b s t x y kind ps pt px py c d = record {
  regs = after_regs s.regs t.regs x.lower y.lower ps.regs pt.regs px.regs c.regs d.lower;
  context = elim (cases_Bool (eqb kind 1)) [
    | inl one ↦ rw one (d.enabled, d.priority, (λ e. e))
    | inr not ↦ rw not (c.context.0, c.context.1, (λ e. e))
  ];
  locals = c.locals;
}

-- ---- entries
pub entry_covers : (v w : Val) (ie : Bool) (m n : ℕ) (lower : Bool) → IsBelow v w → n ≤ m → Covers (state_with_only_a10 w ie n lower) (state_with_only_a10 v ie m lower)
entry_covers v w ie m n lower below le =
    set_covers (record { regs = replicate 27 any_val; ie = ie; ccpn = m; lower = lower; locals = record { items = [] } })
    (record { regs = replicate 27 any_val; ie = ie; ccpn = n; lower = lower; locals = record { items = [] } }) 26 v w (length-replicate 27 any_val) (length-replicate 27 any_val)
    (record { regs = λ r lt x i. i; context = ((λ e. e), le, (λ e. e)); locals = tt }) below

module _ (b : Limits) (image : ImageData) (plan : PlanData) (key : Key) (p : ℕ) (s t : State) (whole : IsImage image) (low : MeetSoundnessPremises b plan s) (high : MeetSoundnessPremises b plan t) (c : Covers t s) where
  stack_grows : IsBelow (handler_entry_sp_of plan key s) (handler_entry_sp_of plan key t)
  stack_grows = elim (cases_Bool key.is) [ inl e ↦ rw e (reg_grows plan s t low.regs high.regs c.regs 26) | inr e ↦ rw e (λ x m. m) ]

  call_covers : Covers (call_entry t) (call_entry s)
  call_covers = record { regs = c.regs; context = (c.context.0, c.context.1, (λ e. e)); locals = tt }

  sys_covers : (tin : ℕ) → Covers (sys_entry plan key t tin) (sys_entry plan key s tin)
  sys_covers tin =
      let v = handler_entry_sp_of plan key s in
      let w = handler_entry_sp_of plan key t in
      let c1 = set_covers s t 26 v w low.regs high.regs c stack_grows in
      let c2 = set_covers (with_reg_value s 26 v) (with_reg_value t 26 w) 15 (word_val tin) (word_val tin) (same_length s v _ ∙ low.regs) (same_length t w _ ∙ high.regs) c1 (λ x m. m) in
      record { regs = c2.regs; context = ((λ e. e), c2.context.1, (λ e. e)); locals = tt }

  aln_covers : Covers (aln_entry plan key t) (aln_entry plan key s)
  aln_covers =
      let v = handler_entry_sp_of plan key s in
      let w = handler_entry_sp_of plan key t in
      set_covers (state_with_only_a10 v false s.ccpn true) (state_with_only_a10 w false t.ccpn true) 15 (word_val 4) (word_val 4)
      (entry_length v false s.ccpn true) (entry_length w false t.ccpn true) (entry_covers v w false s.ccpn t.ccpn true stack_grows c.context.1) (λ x m. m)

  -- ---- the parts
  loaded_grows : (shape : Shape) → IsShapeInBounds shape → IsBelow (value_loaded_by_shape b image plan s shape) (value_loaded_by_shape b image plan t shape)
  loaded_grows (Compute op dst x y) is = λ x m. m
  loaded_grows (Load dst base offset size signed after) is = loads_grow b image plan (address_of_access b plan (Load dst base offset size signed after) s) (address_of_access b plan (Load dst base offset size signed after) t) size signed low.plan whole is.3 (address_value b plan (Load dst base offset size signed after) s low is) (address_value b plan (Load dst base offset size signed after) t high is) (address_grows b plan s t low high c (Load dst base offset size signed after) is)
  loaded_grows (Branch test x y by lowers) is = λ x m. m
  loaded_grows _ is = λ x m. m

  irqs_at : (v w : Bool) (x : ℕ) → (IsTrue v → IsTrue w) → Contains (if v then filter (λ q. ltb s.ccpn q) plan.irqs else []) x → Contains (if w then filter (λ q. ltb t.ccpn q) plan.irqs else []) x
  irqs_at false w x h i = absurd (omega (arith, i.1))
  irqs_at true w x h i =
      let k = contained_filter (λ q. ltb s.ccpn q) plan.irqs x i in
      let lt = ltb-true s.ccpn x k.1 in
      rw (h refl) (contains_filter (λ q. ltb t.ccpn q) x plan.irqs k.0 (lt-ltb t.ccpn x (omega (arith, c.context.1))))

  module _ (faultless : IsFaultless b image plan key p t) (n : ℕ) where
    -- the duty of the greater state, in the same place
    abbrev Above : Shape → Owed → Type 0
    Above shape d = (e : Owed) × Contains (duties_of b image plan key p t shape n) e × IsOwedBelow d e

    above : (shape : Shape) (d e : Owed) → DutyAt b image plan key p t n shape e → d.rule ≡ e.rule → IsDutyBelow d.duty e.duty → Above shape d
    above shape d e at rule below = (e, duty_listed b image plan key p t n shape e at, record { rule = rule; duty = below })

    side_above : (test : Cond) (x : ℕ) (y : Arg) (by : ℕ) (lowers side : Bool) (q : ℕ) (u : State) → IsShapeInBounds (Branch test x y by lowers) → refine_of b plan (Branch test x y by lowers) s side ≡ Some u
        → ((v : State) → refine_of b plan (Branch test x y by lowers) t side ≡ Some v → DutyAt b image plan key p t n (Branch test x y by lowers) (owed 4 (jump q v))) → Above (Branch test x y by lowers) (owed 4 (jump q u))
    side_above test x y by lowers side q u is e at =
        let k = (branch_grows b plan s t test x y by lowers side low high c is u e).1 in
        above (Branch test x y by lowers) (owed 4 (jump q u)) (owed 4 (jump q k.0)) (at k.0 k.1) refl (refl, k.3)

    not_aligned : (shape : Shape) (size : ℕ) → IsShapeInBounds shape → not (are_aligned (address_of_access b plan shape s) size) ≡ true → not (are_aligned (address_of_access b plan shape t) size) ≡ true
    not_aligned shape size is =
        not_falls _ _ (aligned_falls b plan s t low high c (address_of_access b plan shape s) (address_of_access b plan shape t) size (address_value b plan shape s low is) (address_value b plan shape t high is) (address_grows b plan s t low high c shape is))

    misaligned_grows : (shape : Shape) → IsShapeInBounds shape → may_be_misaligned b plan s shape ≡ true → may_be_misaligned b plan t shape ≡ true
    misaligned_grows (Load dst base offset size signed after) is e = not_aligned (Load dst base offset size signed after) size is e
    misaligned_grows (Store src base offset size after) is e = not_aligned (Store src base offset size after) size is e
    misaligned_grows _ is e = e

    above_by : (shape : Shape) (d : Owed) → IsCode image plan p shape n → DutyAt b image plan key p s n shape d → Above shape d
    above_by _ d code (next shape e) =
        let is = IsCode-bounded image plan p shape n code in
        above shape d _ (next shape e) refl (refl, transfer_covers b plan s t low high c shape (value_loaded_by_shape b image plan s shape) (value_loaded_by_shape b image plan t shape) is (loaded_grows shape is))
    above_by _ d code (straight test x y by lowers u e) = side_above test x y by lowers false (wrapping_sum p n) u (IsCode-bounded image plan p _ n code) e (straight test x y by lowers)
    above_by _ d code (taken test x y by lowers u e) = side_above test x y by lowers true (wrapping_sum p by) u (IsCode-bounded image plan p _ n code) e (taken test x y by lowers)
    above_by _ d code (target to q i) = above (Jump to) d _ (target to q (targets_within b plan s t low high c p to (((faultless 5).own (Jump to) n code).targets refl) q i)) refl (refl, c)
    above_by _ d code (called to q i) = above (Call to) d _ (called to q (targets_within b plan s t low high c p to (((faultless 5).own (Call to) n code).targets refl) q i)) refl (refl, call_covers)
    above_by _ d code (called_back to q i) = above (Call to) d d (called_back to q (targets_within b plan s t low high c p to (((faultless 5).own (Call to) n code).targets refl) q i)) refl (refl, refl)
    above_by _ d code (system tin) = above (Syscall tin) d _ (system tin) refl (refl, sys_covers tin)
    above_by _ d code (system_back tin) = above (Syscall tin) d d (system_back tin) refl (refl, refl)
    above_by _ d code (misaligned shape e) = above shape d _ (misaligned shape (misaligned_grows shape (IsCode-bounded image plan p shape n code) e)) refl (refl, aln_covers)
    above_by _ d code (interrupt shape q i) =
        above shape d _ (interrupt shape q (irqs_at s.ie t.ie q c.context.0 i)) refl (refl, entry_covers (handler_entry_sp_of plan key s) (handler_entry_sp_of plan key t) false q q true stack_grows (omega arith))
    above_by _ d code returns = above Ret d _ returns refl (exit_covers s t low.regs high.regs c)
    above_by _ d code (resumes e) = above Rfe d _ (resumes e) refl (exit_covers s t low.regs high.regs c)

pub duties_grow : DutiesAreMonotone
duties_grow b image plan key p s t shape n d ground ps pt c faultless code i =
    (above_by b image plan key p s t ground.is_image (setting_of b image plan s ground ps) (setting_of b image plan t ground pt) c faultless n shape d code (duty_at b image plan key p s n shape d i))
