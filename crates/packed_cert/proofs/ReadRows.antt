-- Which values were read row.
use Rattle.std.proofs.Common.{◌≡◌, ℕ, ◌+◌, ◌<◌, ◌≤◌, inl, inr, List, length, set, refl, ◌∙◌, arith}
use Rattle.std.proofs.lemmas.List.{length-set, get_or-set_other}
use Rattle.value_domain.specs.declared.values.Val.{Val}
use Rattle.value_domain.specs.Values.{any_val}
use Rattle.packed_cert.specs.declared.places.ValueRow.{ValueRow}
use Rattle.packed_cert.specs.ChangedRows.{ChangesOnlyRow, IsWholeRow, IsRowExtendedTo}

-- none
pub row_of_none : (vs : List Val) → ChangesOnlyRow vs vs (record { first = 0; behind = 0; from = 0 })
row_of_none vs = record { count = refl; order = omega arith; within = omega arith; kept = λ k h s. refl }

-- all
pub row_of_all : (before after : List Val) (row : ValueRow) → length after ≡ length before → IsWholeRow (length before) row → ChangesOnlyRow before after row
row_of_all before after row count e = record {
  count = count;
  order = omega (arith, e.0, e.1);
  within = omega (arith, e.1);
  kept = λ k h s. elim s [ inl low ↦ absurd (omega (arith, e.0)) | inr high ↦ absurd (omega (arith, e.1)) ];
}

-- one more
pub row_and_more : (before out : List Val) (i : ℕ) (v : Val) (row more : ValueRow) → i < length before → ChangesOnlyRow before out row → IsRowExtendedTo row i more → ChangesOnlyRow before (set out i v) more
row_and_more before out i v row more lt h w = record {
  count = length-set out i v ∙ h.count;
  order = omega (arith, w.first, w.behind);
  within = omega (arith, w.behind);
  kept = λ k below outside.
      let apart = w.others k outside in
      get_or-set_other out i k v any_val apart.1 ∙ h.kept k below apart.0;
}

-- where none was before, and where some were
pub row_first : (row : ValueRow) (place from : ℕ) → row.behind ≡ 0 → IsRowExtendedTo row place (record { first = place; behind = place + 1; from = from })
row_first row place from none = record {
  first = omega arith;
  behind = refl;
  others = λ k outside. elim outside [ inl low ↦ (inr (omega arith), (λ e. omega arith)) | inr high ↦ (inr (omega arith), (λ e. omega arith)) ];
}

pub row_next : (row : ValueRow) (place : ℕ) → row.first ≤ place → row.behind ≤ place → IsRowExtendedTo row place (record { first = row.first; behind = place + 1; from = row.from })
row_next row place order before = record {
  first = order;
  behind = refl;
  others = λ k outside. elim outside [
    | inl low ↦ let below : k < row.first = low in (inl below, (λ e. let same : k ≡ place = e in omega (arith, order)))
    | inr high ↦ let above : place + 1 ≤ k = high in (inr (omega (arith, before)), (λ e. let same : k ≡ place = e in omega arith))
  ];
}
