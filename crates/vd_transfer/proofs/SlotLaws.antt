-- Where a state has the values of registers.
use Rattle.std.proofs.Common.{◌≡◌, ℕ, ◌+◌, ◌-◌, ◌<◌, ◌≤◌, inl, inr, false, refl, sym, ap, ◌∙◌, arith, Some, None, leb, ltb, eqb, ◌&&◌, if◌then◌else◌}
use Rattle.std.proofs.lemmas.Bool.{cases_lt, cases_Bool, lt-ltb, le-ltb, le-leb, lt-leb, eqb-true, leb-true, and_parts}
use Rattle.tcd_base.proofs.OptionLaws.{some_same}
use Rattle.vd_transfer.specs.Registers.{register_slot, is_lower_register}
use Rattle.value_domain.specs.State.{is_lower_slot}

none_some : {A : Type 0} (i : ℕ) → None ≡ Some i → A
none_some i e = absurd (let f : None ≡ Some i = e in cc)

-- the register of a place
abbrev pub unslot : ℕ → ℕ
unslot i = if ltb i 16 then i else if ltb i 22 then i + 2 else if ltb i 23 then 26 else i + 5

-- a place is one of 27, and gives its register
pub record IsSlot (r i : ℕ) : Type 0 where
  pub within : i < 27
  pub back : unslot i ≡ r
  pub lower : is_lower_slot i ≡ is_lower_register r

first_slots : (r i : ℕ) → r < 16 → r ≡ i → IsSlot r i
first_slots r i h e =
    rw (← e)
    (record {
      within = omega arith;
      back = rw (lt-ltb r 16 h) refl;
      lower = rw (lt-leb 16 r h, lt-leb 18 r (omega arith)) refl;
    })

middle_slots : (r i : ℕ) → 18 ≤ r → r ≤ 23 → r - 2 ≡ i → IsSlot r i
middle_slots r i low high e =
    let back : i + 2 ≡ r = omega arith in
    record {
      within = omega arith;
      back = rw (le-ltb i 16 (omega arith), lt-ltb i 22 (omega arith)) back;
      lower = rw (le-ltb i 8 (omega arith), le-leb 16 i (omega arith), lt-ltb i 22 (omega arith), le-ltb r 8 (omega arith), le-leb 18 r low, le-leb r 23 high) refl;
    }

last_slots : (r i : ℕ) → 28 ≤ r → r ≤ 31 → r - 5 ≡ i → IsSlot r i
last_slots r i low high e =
    let back : i + 5 ≡ r = omega arith in
    record {
      within = omega arith;
      back = rw (le-ltb i 16 (omega arith), le-ltb i 22 (omega arith), le-ltb i 23 (omega arith)) back;
      lower = rw (le-ltb i 8 (omega arith), le-leb 16 i (omega arith), le-ltb i 22 (omega arith), le-ltb r 8 (omega arith), le-leb 18 r (omega arith), lt-leb r 23 (omega arith)) refl;
    }

stack_slot : (r i : ℕ) → r ≡ 26 → 22 ≡ i → IsSlot r i
stack_slot r i a e = rw (← e, a) (record { within = omega arith; back = refl; lower = refl })

pub slot_is : (r i : ℕ) → register_slot r ≡ Some i → IsSlot r i
unfolding register_slot
slot_is r i e =
    elim (cases_lt r 16) [
      | inl first ↦ first_slots r i first (some_same r i (rw (lt-ltb r 16 first) at e))
      | inr past ↦
          let f = rw (le-ltb r 16 past) at e in
          elim (cases_Bool (leb 18 r && leb r 23)) [
            | inl middle ↦ let h = and_parts (leb 18 r) (leb r 23) middle in middle_slots r i (leb-true _ _ h.0) (leb-true _ _ h.1) (some_same (r - 2) i (rw middle at f))
            | inr other ↦
                let g = rw other at f in
                elim (cases_Bool (eqb r 26)) [
                  | inl stack ↦ stack_slot r i (eqb-true _ _ stack) (some_same 22 i (rw stack at g))
                  | inr apart ↦
                      let k = rw apart at g in
                      elim (cases_Bool (leb 28 r && leb r 31)) [
                        | inl last ↦ let h = and_parts (leb 28 r) (leb r 31) last in last_slots r i (leb-true _ _ h.0) (leb-true _ _ h.1) (some_same (r - 5) i (rw last at k))
                        | inr none ↦ none_some i (rw none at k)
                      ]
                ]
          ]
    ]

-- two registers don't share a place
pub slot_apart : (q r i j : ℕ) → register_slot q ≡ Some j → register_slot r ≡ Some i → i ≡ j → q ≡ r
slot_apart q r i j e f same = sym (slot_is q j e).back ∙ ap unslot (sym same) ∙ (slot_is r i f).back

-- a register without a place isn't a lower one
pub not_lower : (r : ℕ) → register_slot r ≡ None → is_lower_register r ≡ false
unfolding register_slot
not_lower r e =
    elim (cases_lt r 16) [
      | inl first ↦ absurd (let f : Some r ≡ None = rw (lt-ltb r 16 first) at e in cc)
      | inr past ↦
          let f = rw (le-ltb r 16 past) at e in
          elim (cases_Bool (leb 18 r && leb r 23)) [
            | inl middle ↦ absurd (let g : Some (r - 2) ≡ None = rw middle at f in cc)
            | inr other ↦ rw (le-ltb r 8 (omega arith), other) refl
          ]
    ]
