-- Values that a change puts, beside those that stood there.
use Rattle.std.proofs.Common.{◌≡◌, ℕ, ◌<◌, Bool, true, false, length, get_or, Option, Some, None, inl, inr, refl, sym, subst, ap, ◌∙◌, eq-eqb, ◌==◌}
use Rattle.std.proofs.lemmas.Bool.{cases_Bool, eqb-true}
use Rattle.value_domain.specs.declared.values.Val.{Val}
use Rattle.value_domain.specs.declared.states.State.{State}
use Rattle.value_domain.specs.Values.{any_val, IsBelow}
use Rattle.vd_transfer.specs.declared.change.Base.{Base}
use Rattle.vd_transfer.specs.declared.change.Base.TheVariants.{Same}
use Rattle.vd_transfer.specs.declared.change.Change.{Change}
use Rattle.vd_transfer.specs.Changes.{base_values, state_after}
use Rattle.vd_transfer.proofs.ChangeLaws.{value-base}

-- ---- places
abbrev is_place : Option ℕ → ℕ → Bool
is_place None r = false
is_place (Some i) r = i == r

is_place-true : (o : Option ℕ) (r : ℕ) → is_place o r ≡ true → o ≡ Some r
is_place-true None r e = absurd (let f : false ≡ true = e in cc)
is_place-true (Some i) r e = ap (λ (k : ℕ). Some k) (eqb-true i r e)

is_place-false : (o : Option ℕ) (r : ℕ) → is_place o r ≡ false → o ≡ Some r → ⊥
is_place-false o r e f =
    let here : is_place o r ≡ true = ap (λ (p : Option ℕ). is_place p r) f ∙ eq-eqb r r refl in
    let no : false ≡ true = sym e ∙ here in
    cc

-- ---- values
-- the value at a place is below the state's own there
abbrev pub IsBelowOwn : State → Change → ℕ → Type 0
IsBelowOwn s c r = IsBelow (get_or (state_after s c).regs r any_val) (get_or s.regs r any_val)

-- a place at which nothing is put
at_other : (s : State) (c : Change) (r : ℕ) → length s.regs ≡ 27 → r < 27 → c.base ≡ Same → is_place c.third.at r ≡ false → is_place c.second.at r ≡ false → is_place c.first.at r ≡ false → IsBelowOwn s c r
at_other s c r len lt base third second first =
    let own : get_or (state_after s c).regs r any_val ≡ get_or s.regs r any_val =
    value-base s c r len lt (is_place-false c.third.at r third) (is_place-false c.second.at r second) (is_place-false c.first.at r first)
    ∙ ap (λ (b : Base). get_or (base_values b s.regs) r any_val) base in
    subst (λ (v : Val). IsBelow v (get_or s.regs r any_val)) (sym own) (λ x m. m)

-- each place, where what is put there is below
pub put_below : (s : State) (c : Change) (r : ℕ) → length s.regs ≡ 27 → r < 27 → c.base ≡ Same → (c.first.at ≡ Some r → IsBelowOwn s c r) → (c.second.at ≡ Some r → IsBelowOwn s c r) → (c.third.at ≡ Some r → IsBelowOwn s c r) → IsBelowOwn s c r
put_below s c r len lt base first second third =
    elim (cases_Bool (is_place c.third.at r)) [
      | inl t ↦ third (is_place-true c.third.at r t)
      | inr n ↦
          elim (cases_Bool (is_place c.second.at r)) [
            | inl t ↦ second (is_place-true c.second.at r t)
            | inr m ↦
                elim (cases_Bool (is_place c.first.at r)) [
                  | inl t ↦ first (is_place-true c.first.at r t)
                  | inr k ↦ at_other s c r len lt base n m k
                ]
          ]
    ]
