-- The first row with an instruction at the front of bytes.
use Rattle.std.proofs.Common.{◌≡◌, inl, inr, ◌+◌, ℕ, zero, suc, true, false, List, [], ◌∷◌, refl, sym, ap, subst, ◌∙◌, arith, Option, Some, None, add-zero}
use Rattle.std.specs.Prelude.{slice_get}
use Rattle.std.proofs.lemmas.Bool.{cases_Bool, cond-true, cond-false, both_ways}
use Rattle.tcd_base.proofs.OptionLaws.{some_same}
use Rattle.tc_isa.specs.Rows.{RowData}
use Rattle.tc_isa.specs.Insts.{InstData}
use Rattle.tc_encode.specs.Decoding.{begins_with_row, row_instruction_length, leading_fields, instruction_at_row, first_row_match}

-- the row at this place, numbered from `place` on, has an instruction at the front of the bytes
pub record Gives (bytes : List ℕ) (place : ℕ) (rows : List RowData) (found : InstData × ℕ) : Type 0 where
  pub at : ℕ
  pub row : RowData
  pub listed : slice_get rows at ≡ Some row
  pub begins : begins_with_row bytes row ≡ true
  pub is : found ≡ (instruction_at_row (place + at) (leading_fields bytes row), row_instruction_length row)

some_none : {A : Type 0} (x : A) → Some x ≡ None → ⊥
some_none x e = cc

pub found_gives : (bytes : List ℕ) (place : ℕ) (rows : List RowData) (found : InstData × ℕ) → first_row_match bytes place rows ≡ Some found → Gives bytes place rows found
found_gives bytes place [] found e = absurd (some_none found (sym e))
found_gives bytes place (r ∷ rs) found e = elim (cases_Bool (begins_with_row bytes r)) [
  | inl has ↦
      let is : found ≡ (instruction_at_row place (leading_fields bytes r), row_instruction_length r) = sym (some_same _ _ (sym (cond-true (begins_with_row bytes r) (Some (instruction_at_row place (leading_fields bytes r), row_instruction_length r)) (first_row_match bytes (suc place) rs) has) ∙ e)) in
      record { at = 0; row = r; listed = refl; begins = has; is = rw add-zero is }
  | inr lacks ↦
      let g = found_gives bytes (suc place) rs found (sym (cond-false (begins_with_row bytes r) (Some (instruction_at_row place (leading_fields bytes r), row_instruction_length r)) (first_row_match bytes (suc place) rs) lacks) ∙ e) in
      let same : suc place + g.at ≡ place + suc g.at = omega arith in
      record { at = suc g.at; row = g.row; listed = g.listed; begins = g.begins; is = g.is ∙ ap (λ p. (instruction_at_row p (leading_fields bytes g.row), row_instruction_length g.row)) same }
]

-- if no row is found, no row has an instruction there
pub none_found : (bytes : List ℕ) (place : ℕ) (rows : List RowData) → first_row_match bytes place rows ≡ None → (q : ℕ) (r : RowData) → slice_get rows q ≡ Some r → begins_with_row bytes r ≡ false
none_found bytes place [] e q r at = absurd (some_none r (sym at))
none_found bytes place (x ∷ xs) e q r at = elim (cases_Bool (begins_with_row bytes x)) [
  | inl has ↦ absurd (some_none (instruction_at_row place (leading_fields bytes x), row_instruction_length x) (sym (cond-true (begins_with_row bytes x) (Some (instruction_at_row place (leading_fields bytes x), row_instruction_length x)) (first_row_match bytes (suc place) xs) has) ∙ e))
  | inr lacks ↦ none_here bytes place x xs q r lacks (none_found bytes (suc place) xs (sym (cond-false (begins_with_row bytes x) (Some (instruction_at_row place (leading_fields bytes x), row_instruction_length x)) (first_row_match bytes (suc place) xs) lacks) ∙ e)) at
]
  where
    none_here : (bytes : List ℕ) (place : ℕ) (x : RowData) (xs : List RowData) (q : ℕ) (r : RowData) → begins_with_row bytes x ≡ false → ((q : ℕ) (r : RowData) → slice_get xs q ≡ Some r → begins_with_row bytes r ≡ false) → slice_get (x ∷ xs) q ≡ Some r → begins_with_row bytes r ≡ false
    none_here bytes place x xs zero r lacks more at = subst (λ z. begins_with_row bytes z ≡ false) (some_same x r at) lacks
    none_here bytes place x xs (suc q) r lacks more at = more q r at

-- if the row at q has one, some row is found
pub some_found : (bytes : List ℕ) (place : ℕ) (rows : List RowData) (q : ℕ) (r : RowData) → slice_get rows q ≡ Some r → begins_with_row bytes r ≡ true → (found : InstData × ℕ) × (first_row_match bytes place rows ≡ Some found)
some_found bytes place rows q r at has = cases (first_row_match bytes place rows) refl
  where
    cases : (o : Option (InstData × ℕ)) → first_row_match bytes place rows ≡ o → (found : InstData × ℕ) × (first_row_match bytes place rows ≡ Some found)
    cases (Some found) e = (found, e)
    cases None e = absurd (both_ways _ (none_found bytes place rows e q r at) has)
