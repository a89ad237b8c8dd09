-- Rows of values that stand one after another, and the moves from point to point.
use Rattle.std.proofs.Common.{◌≡◌, ℕ, zero, suc, ◌+◌, ◌-◌, ◌≤◌, inl, inr, List, [], ◌∷◌, ◌++◌, length, get_or, drop, true, false, refl, sym, ap, ◌∙◌, subst, arith}
use Rattle.std.specs.Prelude.{IsTrue}
use Rattle.std.proofs.lemmas.Bool.{cases_lt}
use Rattle.std.proofs.lemmas.List.{get_or_append_left, length-append}
use Rattle.std.proofs.Math.Seq.{get_or-append_seam}
use Rattle.value_domain.specs.declared.values.Val.{Val}
use Rattle.value_domain.specs.declared.states.State.{State}
use Rattle.value_domain.specs.Values.{any_val}
use Rattle.packed_cert.specs.declared.places.PointPlace.{PointPlace}
use Rattle.packed_cert.specs.ValuesInBytes.{AreValuesBetween, offset_after_value, place_in_bytes, offset_after_values, value_in_bytes, values_in_bytes, ValuesBeginAt, read_from_bytes_or}
use Rattle.packed_cert.specs.ChangedRows.{IsRowOfValuesAt, IsWholeRow, ChangesOnlyRow}
use Rattle.packed_cert.specs.PointsInBytes.{state_in_bytes, StateBeginsAt}
use Rattle.value_domain.specs.State.{no_state}
use Rattle.packed_cert.specs.Moves.{DiffersOnlyInRow, IsStateBefore, AllDifferOnlyInRows}
use Rattle.packed_cert.proofs.SameBytes.{Small, value_stands}
use Rattle.packed_cert.proofs.ValueShapes.{length-values_in}
use Rattle.packed_cert.proofs.StateShapes.{state_values}
use Rattle.packed_cert.proofs.ReadRows.{row_of_all}

-- one value further
place_after-suc : (bytes : List ℕ) (x i : ℕ) → offset_after_values bytes x (suc i) ≡ offset_after_value bytes (offset_after_values bytes x i)
place_after-suc bytes x zero = refl
place_after-suc bytes x (suc i) = place_after-suc bytes (offset_after_value bytes x) i

pub place_after-more : (bytes : List ℕ) (x i : ℕ) → offset_after_values bytes x (i + 1) ≡ offset_after_value bytes (offset_after_values bytes x i)
place_after-more bytes x i =
    let e : i + 1 ≡ suc i = omega arith in
    ap (λ (k : ℕ). offset_after_values bytes x k) e ∙ place_after-suc bytes x i

-- values that stand one after another, from one of them on
pub record StandsRow (version : ℕ) (bytes : List ℕ) (y : ℕ) (vs : List Val) (i n : ℕ) : Type 0 where
  pub have : ValuesBeginAt version bytes y (n - i)
  pub stand : drop i vs ≡ values_in_bytes version bytes y (n - i)

pub all_stand : (version : ℕ) (bytes : List ℕ) (x e : ℕ) (vs : List Val) → Small bytes → x ≤ length bytes → AreValuesBetween version bytes x vs e → ValuesBeginAt version bytes x (length vs) × (vs ≡ values_in_bytes version bytes x (length vs))
all_stand version bytes x e [] small h s = (tt, refl)
all_stand version bytes x e (v ∷ vs) small h s =
    let one = value_stands version bytes x v _ small h s.0 in
    let rest = all_stand version bytes (offset_after_value bytes x) e vs small one.within s.1 in
    let here : v ≡ value_in_bytes version bytes x = sym (ap (read_from_bytes_or any_val) s.0) in
    ((((v, place_in_bytes bytes (offset_after_value bytes x)), s.0, h), rest.0), ap (λ (u : Val). u ∷ vs) here ∙ ap (λ (us : List Val). value_in_bytes version bytes x ∷ us) rest.1)

pub row_stands : (version : ℕ) (bytes : List ℕ) (x e i n : ℕ) (vs : List Val) → Small bytes → x ≤ length bytes → AreValuesBetween version bytes x vs e → length vs ≡ n → i ≤ n → StandsRow version bytes (offset_after_values bytes x i) vs i n
row_stands version bytes x e zero n vs small h s len few =
    let all = all_stand version bytes x e vs small h s in
    let same : length vs ≡ n - 0 = omega arith in
    record { have = subst (ValuesBeginAt version bytes x) same all.0; stand = all.1 ∙ ap (values_in_bytes version bytes x) same }
row_stands version bytes x e (suc i) n [] small h s len few = absurd (omega arith)
row_stands version bytes x e (suc i) n (v ∷ vs) small h s len few =
    let one = value_stands version bytes x v _ small h s.0 in
    let len2 : length vs ≡ n - 1 = omega arith in
    let rest = row_stands version bytes (offset_after_value bytes x) e i (n - 1) vs small one.within s.1 len2 (omega arith) in
    let left : n - 1 - i ≡ n - suc i = omega arith in
    record { have = subst (ValuesBeginAt version bytes (offset_after_values bytes (offset_after_value bytes x) i)) left rest.have; stand = rest.stand ∙ ap (values_in_bytes version bytes (offset_after_values bytes (offset_after_value bytes x) i)) left }

-- ---- one point more
-- a state that stands at a place has 27 values
pub state_length : (version : ℕ) (bytes : List ℕ) (x : ℕ) → Small bytes → StateBeginsAt version bytes x → length (state_in_bytes version bytes x).regs ≡ 27
state_length version bytes x small h =
    let v = state_values version bytes x h.0.0 h.0.1 small h.1 in
    ap (λ (s : State). length s.regs) (ap (read_from_bytes_or no_state) h.1) ∙ ap (λ (l : List Val). length l) v.regs ∙ length-values_in version bytes (x + 4 + get_or bytes (x + 3) 0) 27

-- what is read behind a state keeps what it says of it
pub moved_by : (version : ℕ) (bytes : List ℕ) (before after : State) (p : PointPlace) (x e : ℕ) → Small bytes → state_in_bytes version bytes p.place ≡ after → length after.regs ≡ 27 → length before.regs ≡ 27
    → x ≤ length bytes → AreValuesBetween version bytes x after.regs e → ChangesOnlyRow before.regs after.regs p.row → IsRowOfValuesAt bytes x p.row → (IsTrue p.same → after ≡ before) → DiffersOnlyInRow version bytes before p
moved_by version bytes before after p x e small is count len h s row from same =
    let few : (p.row).behind ≤ 27 = omega (arith, row.within) in
    let first : (p.row).first ≤ 27 = omega (arith, row.order, row.within) in
    let stands = row_stands version bytes x e (p.row).first 27 after.regs small h s count first in
    record {
      row = subst (λ (t : State). ChangesOnlyRow before.regs t.regs p.row) (sym is) row;
      few = few;
      have = λ some. subst (λ (y : ℕ). ValuesBeginAt version bytes y (27 - (p.row).first)) (sym (from some)) stands.have;
      stand = λ some.
          ap (λ (t : State). drop (p.row).first t.regs) is
          ∙ stands.stand
          ∙ ap (λ (y : ℕ). values_in_bytes version bytes y (27 - (p.row).first)) (sym (from some));
      same = λ t. is ∙ same t;
    }

-- points that keep what they say, and one more
pub moves_push : (version : ℕ) (bytes : List ℕ) (ps : List PointPlace) (p : PointPlace) → AllDifferOnlyInRows version bytes ps → ((t : State) → IsStateBefore version bytes ps (length ps) t → DiffersOnlyInRow version bytes t p) → AllDifferOnlyInRows version bytes (ps ++ p ∷ [])
moves_push version bytes ps p moves one k d s lt before =
    elim (cases_lt k (length ps)) [
      | inl low ↦
          let here : get_or (ps ++ p ∷ []) k d ≡ get_or ps k d = get_or_append_left ps (p ∷ []) d k low in
          let front : IsStateBefore version bytes ps k s = record {
            count = before.count;
            last = λ j e next. before.last j e next ∙ ap (λ (q : PointPlace). state_in_bytes version bytes q.place) (get_or_append_left ps (p ∷ []) e j (omega arith));
          } in
          subst (λ (q : PointPlace). DiffersOnlyInRow version bytes s q) (sym here) (moves k d s low front)
      | inr from ↦
          let there : k ≡ length ps = omega (arith, length-append ps (p ∷ [])) in
          let here : get_or (ps ++ p ∷ []) k d ≡ p = ap (λ (n : ℕ). get_or (ps ++ p ∷ []) n d) there ∙ get_or-append_seam ps p [] d in
          let front : IsStateBefore version bytes ps (length ps) s = record {
            count = before.count;
            last = λ j e next. before.last j e (next ∙ sym there) ∙ ap (λ (q : PointPlace). state_in_bytes version bytes q.place) (get_or_append_left ps (p ∷ []) e j (omega arith));
          } in
          subst (λ (q : PointPlace). DiffersOnlyInRow version bytes s q) (sym here) (one s front)
    ]

-- what is read behind the points keeps what it says of any state that stands before it; a first
-- point says of all values that they were read
pub moved_next : (version : ℕ) (bytes : List ℕ) (ps : List PointPlace) (t before after : State) (p : PointPlace) (x e i : ℕ) → Small bytes → state_in_bytes version bytes p.place ≡ after → StateBeginsAt version bytes p.place
    → x ≤ length bytes → AreValuesBetween version bytes x after.regs e → IsRowOfValuesAt bytes x p.row → (i ≡ 0 → IsWholeRow 27 p.row × (p.same ≡ false)) → (1 ≤ i → ChangesOnlyRow before.regs after.regs p.row) → (1 ≤ i → IsTrue p.same → after ≡ before)
    → length ps ≡ i → ((j : ℕ) (d : PointPlace) → j + 1 ≡ i → before ≡ state_in_bytes version bytes (get_or ps j d).place) → IsStateBefore version bytes ps (length ps) t → DiffersOnlyInRow version bytes t p
moved_next version bytes ps t before after p x e zero small is there h s from whole row same size last b =
    let w = whole refl in
    let count : length after.regs ≡ 27 = ap (λ (u : State). length u.regs) (sym is) ∙ state_length version bytes p.place small there in
    moved_by version bytes t after p x e small is count b.count h s
    (row_of_all t.regs after.regs p.row (omega (arith, b.count)) (w.0.0, omega (arith, w.0.1, b.count))) from
    (λ y. absurd (let f : false ≡ true = sym w.1 ∙ y in cc))
moved_next version bytes ps t before after p x e (suc j) small is there h s from whole row same size last b =
    let some : 1 ≤ suc j = omega arith in
    let count : length after.regs ≡ 27 = ap (λ (u : State). length u.regs) (sym is) ∙ state_length version bytes p.place small there in
    let own : before ≡ t = last j p (omega arith) ∙ sym (b.last j p (omega arith)) in
    let len : length before.regs ≡ 27 = ap (λ (u : State). length u.regs) own ∙ b.count in
    subst (λ (u : State). DiffersOnlyInRow version bytes u p) own (moved_by version bytes before after p x e small is count len h s (row some) from (same some))
