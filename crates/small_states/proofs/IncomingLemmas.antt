-- Incoming values.
use Rattle.std.proofs.Common.{◌≡◌, ℕ, Bool, true, false, Option, Some, None, List, length, nat_eq, ◌+◌, ◌-◌, ◌++◌, ◌<◌, ◌≤◌, get_or, take, drop, replicate, refl, subst, sym, ap, ◌∙◌, arith}
use Rattle.std.specs.Prelude.{if◌then◌else◌}
use Rattle.std.specs.Option.{option_eq}
use Rattle.std.proofs.lemmas.Bool.{eq-eqb, eqb-true, le-leb, le-ltb, lt-leb, lt-ltb}
use Rattle.std.proofs.lemmas.List.{length-append, length-take-le, length-drop, take_all}
use Rattle.value_domain.specs.declared.values.Val.{Val}
use Rattle.value_domain.specs.Limits.{Limits}
use Rattle.value_domain.specs.State.{AreWellFormed, AreInLattice}
use Rattle.value_domain.specs.Values.{any_val}
use Rattle.depth_cert.specs.Exits.{lower_values, values_after_return_from}
use Rattle.small_states.specs.Incoming.{incoming_exit_with, incoming_known, is_incoming_exit, incoming_known_with, incoming_state_with, incoming_values}
use Rattle.depth_cert.proofs.ExitValues.{after-at, lower_high, lower_low, with_lower_length}
use Rattle.depth_cert.specs.Known.{Known, state, leaving}
use Rattle.small_states.specs.CompactForms.{values_from}
use Rattle.small_states.proofs.SparseLemmas.{part_joins, take_anys}
use Rattle.vd_transfer.specs.EffectsOnStates.{with_lower_unknown_from}
use Rattle.vd_transfer.proofs.ChangeLaws.{forgotten-lower, forgotten-other}
use Rattle.vd_transfer.proofs.RegisterLaws.{length-forgotten}
use Rattle.small_states.specs.declared.incoming.Incoming.{Incoming}
use Rattle.small_states.specs.declared.incoming.Context.{Context}

-- ---- lower registers
module _ (regs : List Val) (len : length regs ≡ 27) where
  front_length : length (take 8 regs) ≡ 8
  front_length = length-take-le 8 regs (omega arith)

  back_length : length (take 6 (drop 16 regs)) ≡ 6
  back_length = length-take-le 6 (drop 16 regs) (omega (arith, length-drop 16 regs))

  pub lower_count : length (lower_values regs) ≡ 14
  lower_count = omega (arith, length-append (take 8 regs) (take 6 (drop 16 regs)), front_length, back_length)

-- ---- values
pub values_well : (b : Limits) (vs : List Val) → AreInLattice b vs → AreWellFormed vs
values_well b vs values r lt = (values r lt).well

-- ---- the incoming facts
module _ (incoming : Incoming) (k : Context) (t : Bool) (is : t ≡ is_incoming_exit incoming) (by : incoming_known incoming ≡ incoming_known_with incoming k) where
  abbrev known_if : Bool → Known
  known_if b = if b then leaving (incoming_exit_with (incoming_values incoming) k) else state (incoming_state_with (incoming_values incoming) k)

  pub incoming_exit : t ≡ true → incoming_known incoming ≡ leaving (incoming_exit_with (incoming_values incoming) k)
  incoming_exit e = by ∙ ap known_if (sym is ∙ e)

  pub incoming_state : t ≡ false → incoming_known incoming ≡ state (incoming_state_with (incoming_values incoming) k)
  incoming_state e = by ∙ ap known_if (sym is ∙ e)

-- ---- a place that a test compares
pub is_place : (at : Option ℕ) (i : ℕ) → option_eq nat_eq at (Some i) ≡ true → at ≡ Some i
is_place None i e = absurd (let f : false ≡ true = e in cc)
is_place (Some k) i e = ap Some (eqb-true k i e)

pub other_place : (at : Option ℕ) (i : ℕ) → option_eq nat_eq at (Some i) ≡ false → at ≡ Some i → ⊥
other_place at i e is =
    let same : nat_eq i i ≡ true = eq-eqb i i refl in
    let none : nat_eq i i ≡ false = subst (λ (a : Option ℕ). option_eq nat_eq a (Some i) ≡ false) is e in
    cc

-- ---- values after a frame returned
module _ (lower regs : List Val) (i : ℕ) (lt : i < length regs) where
  pub after_low : i < 8 → get_or (values_after_return_from 0 lower regs) i any_val ≡ get_or lower i any_val
  after_low h = after-at lower regs i lt ∙ (let e = lt-ltb i 8 h in rw e refl)

  pub after_high : 16 ≤ i → i < 22 → get_or (values_after_return_from 0 lower regs) i any_val ≡ get_or lower (i - 8) any_val
  after_high h k =
      after-at lower regs i lt ∙ (let e = le-ltb i 8 (omega arith) in let f = le-leb 16 i h in let g = lt-ltb i 22 k in rw (e, f, g) refl)

  pub after_middle : 8 ≤ i → i < 16 → get_or (values_after_return_from 0 lower regs) i any_val ≡ get_or regs i any_val
  after_middle h k = after-at lower regs i lt ∙ (let e = le-ltb i 8 h in let f = lt-leb 16 i k in rw (e, f) refl)

  pub after_last : 22 ≤ i → get_or (values_after_return_from 0 lower regs) i any_val ≡ get_or regs i any_val
  after_last h =
      after-at lower regs i lt ∙ (let e = le-ltb i 8 (omega arith) in let f = le-leb 16 i (omega arith) in let g = le-ltb i 22 h in rw (e, f, g) refl)

-- ---- by parts
pub after_parts : (lower regs : List Val) → length regs ≡ 27
    → ((values_from lower 0 8 ++ values_from regs 8 8) ++ values_from lower 8 6) ++ values_from regs 22 5 ≡ values_after_return_from 0 lower regs
after_parts lower regs long =
    let ws = values_after_return_from 0 lower regs in
    let len : length ws ≡ 27 = with_lower_length lower regs ∙ long in
    ap (λ (l : List Val). ((l ++ values_from regs 8 8) ++ values_from lower 8 6) ++ values_from regs 22 5)
    (part_joins ws lower 0 0 8 (omega arith) (λ r h. after_low lower regs (0 + r) (omega arith) (omega arith)))
    ∙ ap (λ (l : List Val). (l ++ values_from lower 8 6) ++ values_from regs 22 5)
    (part_joins ws regs 8 8 8 (omega arith) (λ r h. after_middle lower regs (8 + r) (omega arith) (omega arith) (omega arith)))
    ∙ ap (λ (l : List Val). l ++ values_from regs 22 5)
    (part_joins ws lower 16 8 6 (omega arith)
    (λ r h.
    let e : 16 + r - 8 ≡ 8 + r = omega arith in
    after_high lower regs (16 + r) (omega arith) (omega arith) (omega arith) ∙ ap (λ (m : ℕ). get_or lower m any_val) e))
    ∙ part_joins ws regs 22 22 5 (omega arith) (λ r h. after_last lower regs (22 + r) (omega arith) (omega arith))
    ∙ take_all 27 ws (omega arith)

pub leaving_parts : (regs : List Val) → length regs ≡ 27 → values_from regs 0 8 ++ values_from regs 16 6 ≡ lower_values regs
leaving_parts regs long =
    let ws = lower_values regs in
    let len : length ws ≡ 14 = lower_count regs long in
    ap (λ (l : List Val). l ++ values_from regs 16 6)
    (part_joins ws regs 0 0 8 (omega arith) (λ r h. lower_low regs (0 + r) (omega arith) (omega arith)))
    ∙ part_joins ws regs 8 16 6 (omega arith)
    (λ r h.
    let e : 8 + r + 8 ≡ 16 + r = omega arith in
    lower_high regs (8 + r) (omega arith) (omega arith) (omega arith) ∙ ap (λ (m : ℕ). get_or regs m any_val) e)
    ∙ take_all 14 ws (omega arith)

-- ---- values with the lower registers unknown
module _ (regs : List Val) (i : ℕ) (lt : i < length regs) where
  forgotten_low : i < 8 → get_or (with_lower_unknown_from 0 regs) i any_val ≡ any_val
  forgotten_low h = forgotten-lower regs i lt (let e = lt-ltb i 8 h in rw e refl)

  forgotten_high : 16 ≤ i → i < 22 → get_or (with_lower_unknown_from 0 regs) i any_val ≡ any_val
  forgotten_high h k = forgotten-lower regs i lt (let e = le-ltb i 8 (omega arith) in let f = le-leb 16 i h in let g = lt-ltb i 22 k in rw (e, f, g) refl)

  kept_middle : 8 ≤ i → i < 16 → get_or (with_lower_unknown_from 0 regs) i any_val ≡ get_or regs i any_val
  kept_middle h k = forgotten-other regs i lt (let e = le-ltb i 8 h in let f = lt-leb 16 i k in rw (e, f) refl)

  kept_last : 22 ≤ i → get_or (with_lower_unknown_from 0 regs) i any_val ≡ get_or regs i any_val
  kept_last h = forgotten-other regs i lt (let e = le-ltb i 8 (omega arith) in let f = le-leb 16 i (omega arith) in let g = le-ltb i 22 h in rw (e, f, g) refl)

pub forgotten_parts : (regs : List Val) → length regs ≡ 27
    → ((replicate 8 any_val ++ values_from regs 8 8) ++ replicate 6 any_val) ++ values_from regs 22 5 ≡ with_lower_unknown_from 0 regs
forgotten_parts regs long =
    let ws = with_lower_unknown_from 0 regs in
    let len : length ws ≡ 27 = length-forgotten 0 regs ∙ long in
    ap (λ (l : List Val). ((l ++ values_from regs 8 8) ++ replicate 6 any_val) ++ values_from regs 22 5)
    (sym (take_anys ws 0 8 (omega arith) (λ r h k. forgotten_low regs r (omega arith) k)))
    ∙ ap (λ (l : List Val). (l ++ replicate 6 any_val) ++ values_from regs 22 5)
    (part_joins ws regs 8 8 8 (omega arith) (λ r h. kept_middle regs (8 + r) (omega arith) (omega arith) (omega arith)))
    ∙ ap (λ (l : List Val). l ++ values_from regs 22 5) (sym (take_anys ws 16 6 (omega arith) (λ r h k. forgotten_high regs r (omega arith) h k)))
    ∙ part_joins ws regs 22 22 5 (omega arith) (λ r h. kept_last regs (22 + r) (omega arith) (omega arith))
    ∙ take_all 27 ws (omega arith)
