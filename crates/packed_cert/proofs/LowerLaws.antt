-- The values of the lower registers, by their numbers among them and by their places in a state.
use Rattle.std.proofs.Common.{◌≡◌, ℕ, ◌≤◌, ◌<◌, ◌+◌, ◌-◌, List, length, get_or, drop, true, false, cond, ltb, refl, sym, ◌∙◌, ap, arith, inl, inr, subst}
use Rattle.std.specs.Prelude.{IsTrue, ◌↔◌}
use Rattle.std.proofs.lemmas.Bool.{cases_lt, cases_Bool}
use Rattle.value_domain.specs.declared.values.Val.{Val}
use Rattle.value_domain.specs.Values.{any_val, IsWellFormed, IsBelow}
use Rattle.value_domain.proofs.RangeLaws.{below_any}
use Rattle.value_domain.specs.State.{AreWellFormed, is_lower_slot}
use Rattle.depth_cert.specs.Exits.{lower_values, values_after_return_from}
use Rattle.depth_cert.proofs.ExitValues.{restored_at, after-at, lower_low, lower_high}
use Rattle.packed_cert.specs.ValuesInBytes.{offset_after_value, value_in_bytes, values_in_bytes, ValueBeginsAt, ValuesBeginAt}
use Rattle.packed_cert.proofs.SameBytes.{Small}
use Rattle.packed_cert.proofs.ValueShapes.{left_first, length-values_in, stands_at, well_of}

-- ---- where they stand in a list of their own
pub lower_well : (regs : List Val) (i : ℕ) → 22 ≤ length regs → i < 14 → AreWellFormed regs → IsWellFormed (get_or (lower_values regs) i any_val)
lower_well regs i len h well =
    elim (cases_lt i 8) [
      | inl low ↦ subst (λ (v : Val). IsWellFormed v) (sym (lower_low regs i len low)) (well i (omega arith))
      | inr high ↦ subst (λ (v : Val). IsWellFormed v) (sym (lower_high regs i len high h)) (well (i + 8) (omega arith))
    ]

-- ---- how many of them have a place before one
abbrev pub lower_before : ℕ → ℕ
lower_before i = cond (ltb i 8) i (cond (ltb i 16) 8 (cond (ltb i 22) (i - 8) 14))

slot_before : (i : ℕ) → i < 27 → is_lower_slot i ≡ true → (lower_before (i + 1) ≡ lower_before i + 1) × (lower_before i < 14) × (cond (ltb i 8) i (i - 8) ≡ lower_before i)
slot_before i h e = grind (arith)

other_before : (i : ℕ) → i < 27 → is_lower_slot i ≡ false → lower_before (i + 1) ≡ lower_before i
other_before i h e = grind (arith)

-- ---- the state in which they are replaced by those that stand at a place: one value after another
-- those that are left stand from a place on, where n were looked at
pub record LeftBehind (version : ℕ) (bytes : List ℕ) (place n from : ℕ) : Type 0 where
  pub have : ValuesBeginAt version bytes from (14 - n)
  pub left : drop n (values_in_bytes version bytes place 14) ≡ values_in_bytes version bytes from (14 - n)

-- the value at place i
abbrev pub restored_in : ℕ → List ℕ → ℕ → ℕ → List Val → Val
restored_in version bytes from i regs = cond (is_lower_slot i) (value_in_bytes version bytes from) (get_or regs i any_val)

pub record LowerStep (version : ℕ) (bytes : List ℕ) (place i from : ℕ) (regs : List Val) : Type 0 where
  pub has : IsTrue (is_lower_slot i) → ValueBeginsAt version bytes from
  pub is : get_or (values_after_return_from 0 (values_in_bytes version bytes place 14) regs) i any_val ≡ restored_in version bytes from i regs
  pub next : LeftBehind version bytes place (lower_before (i + 1)) (cond (is_lower_slot i) (offset_after_value bytes from) from)

pub lower_step : (version : ℕ) (bytes : List ℕ) (place i from : ℕ) (regs : List Val) → i < 27 → length regs ≡ 27 → LeftBehind version bytes place (lower_before i) from → LowerStep version bytes place i from regs
lower_step version bytes place i from regs h len l =
    let ls : List Val = values_in_bytes version bytes place 14 in
    let at : get_or (values_after_return_from 0 ls regs) i any_val ≡ restored_at i ls (get_or regs i any_val) = after-at ls regs i (omega arith) in
    elim (cases_Bool (is_lower_slot i)) [
      | inl t ↦
          let k = slot_before i h t in
          let f = left_first version bytes from 14 (lower_before i) ls k.1 (length-values_in version bytes place 14) l.have l.left in
          let next : LeftBehind version bytes place (lower_before i + 1) (offset_after_value bytes from) = record { have = f.1; left = f.3 } in
          let value : restored_at i ls (get_or regs i any_val) ≡ value_in_bytes version bytes from = rw t (ap (λ (n : ℕ). get_or ls n any_val) k.2 ∙ f.2) in
          let back : value_in_bytes version bytes from ≡ restored_in version bytes from i regs = rw t refl in
          record {
            has = λ s. f.0;
            is = at ∙ value ∙ back;
            next = rw t (subst (λ (n : ℕ). LeftBehind version bytes place n (offset_after_value bytes from)) (sym k.0) next);
          }
      | inr f ↦
          let same : restored_at i ls (get_or regs i any_val) ≡ restored_in version bytes from i regs = rw f refl in
          record {
            has = λ s. absurd (let e : false ≡ true = sym f ∙ s in cc);
            is = at ∙ same;
            next = rw f (subst (λ (n : ℕ). LeftBehind version bytes place n from) (sym (other_before i h f)) l);
          }
    ]

-- below a value that holds all words is each of them
pub any_above : (i : ℕ) (regs : List Val) (version : ℕ) (bytes : List ℕ) (from : ℕ) (high : Val) → Small bytes → i < 27 → length regs ≡ 27 → AreWellFormed regs → (IsTrue (is_lower_slot i) → ValueBeginsAt version bytes from) → high ≡ any_val
    → IsTrue true ↔ IsBelow (restored_in version bytes from i regs) high
any_above i regs version bytes from high small h len well has any =
    elim (cases_Bool (is_lower_slot i)) [
      | inl t ↦
          let v : Val = value_in_bytes version bytes from in
          let there = stands_at version bytes from small (has t) in
          let below : IsBelow v high = subst (λ (w : Val). IsBelow v w) (sym any) (below_any v (well_of version v there.well)) in
          rw t (λ y. below, λ b. refl)
      | inr f ↦
          let v : Val = get_or regs i any_val in
          let below : IsBelow v high = subst (λ (w : Val). IsBelow v w) (sym any) (below_any v (well i (omega arith))) in
          rw f (λ y. below, λ b. refl)
    ]
