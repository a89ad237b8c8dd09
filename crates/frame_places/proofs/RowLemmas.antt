-- The need of one row.
use Rattle.std.proofs.Common.{◌≡◌, ℕ, ◌+◌, ◌<◌, ◌≤◌, ◌⊎◌, inl, inr, length, List, [], ◌∷◌, ◌++◌, max, arith, refl, sym, subst, ap, ◌∙◌, Bool, true, false, set, ◌≢◌, zero, suc, ◌*◌, ◌-◌, take, drop, get_or}
use Rattle.std.specs.Prelude.{slice_index, Contains, sum, if◌then◌else◌}
use Rattle.std.proofs.lemmas.List.Elements.{Contains-push, Contains-push_cases, Contains-append_cases, Contains-append_left, Contains-append_right}
use Rattle.std.proofs.lemmas.List.{drop_more, get_or-set_same, get_or-set_other, length-set, get_or_default}
use Rattle.std.proofs.lemmas.Bool.{cases_eq}
use Rattle.std.proofs.Math.Seq.{take-append_seam}
use Rattle.std.proofs.lemmas.List.Sums.{sum_by-set, sum_by-le}
use Rattle.frame_places.specs.declared.needs.row.NeedRow.{NeedRow}
use Rattle.frame_places.specs.RowNeeds.{MeetsRow, MeetsRowUpToCap, RaisesNeedByRow, RaisesNeedsByRows, AreLowerBounds, MeetsRows}

sum-set : (xs : List ℕ) (i y : ℕ) → i < length xs → sum (set xs i y) + slice_index xs i ≡ sum xs + y
sum-set xs i y lt = sum_by-set (λ (x : ℕ). x) xs i y 0 lt

same_or : (a b : ℕ) → (a ≡ b) ⊎ (a ≢ b)
same_or a b = cases_eq a b

set_at : (xs : List ℕ) (i y k : ℕ) (P : ℕ → Type 0) → (k ≡ i → P y) → P (slice_index xs k) → i < length xs → P (slice_index (set xs i y) k)
set_at xs i y k P here there lt = elim (same_or k i) [
  | inl e ↦ subst P (sym (subst (λ (j : ℕ). slice_index (set xs i y) j ≡ y) (sym e) (get_or-set_same xs i y 0 lt))) (here e)
  | inr ne ↦ subst P (sym (get_or-set_other xs i k y 0 ne)) there
]

-- the need so far, after these entered nodes
pub record AsksSoFar (needs : List ℕ) (row : NeedRow) (cap : ℕ) (seen : List ℕ) (need : ℕ) : Type 0 where
  pub held : row.held ≤ need
  pub bound : need ≤ row.held + 1 + (cap + 1)
  pub into : (t : ℕ) → Contains seen t → row.held + 1 + slice_index needs t ≤ need
  pub least : (other : ℕ → ℕ) → MeetsRow other row → ((t : ℕ) → t < length needs → slice_index needs t ≤ other t) → need ≤ other row.node

le_max : (a b m : ℕ) → m ≡ max a b → (a ≤ m) × (b ≤ m)
le_max a b m e = (omega arith, omega arith)

max_le : (a b m n : ℕ) → m ≡ max a b → a ≤ n → b ≤ n → m ≤ n
max_le a b m n e f g = omega arith

pub asks_more : (needs : List ℕ) (row : NeedRow) (cap : ℕ) (seen : List ℕ) (need new t : ℕ) → AsksSoFar needs row cap seen need → Contains row.into.items t → t < length needs → slice_index needs t ≤ cap + 1 → new ≡ max need (row.held + 1 + slice_index needs t) → AsksSoFar needs row cap (seen ++ t ∷ []) new
asks_more needs row cap seen need new t a has lt low is =
    let both = le_max need (row.held + 1 + slice_index needs t) new is in
    record {
      held = (let h = a.held in omega (arith, both.0, h));
      bound = max_le need (row.held + 1 + slice_index needs t) new (row.held + 1 + (cap + 1)) is a.bound (omega arith);
      into = λ u h. elim (Contains-push_cases seen t u h) [
        | inl before ↦ (let o = a.into u before in omega (arith, o, both.0))
        | inr e ↦ subst (λ (k : ℕ). row.held + 1 + slice_index needs k ≤ new) e both.1
      ];
      least = λ other m low2. max_le need (row.held + 1 + slice_index needs t) new (other row.node) is (a.least other m low2)
          (let x = m.into t has in let y = low2 t lt in omega (arith, x, y));
    }

pub rose_row : (needs : List ℕ) (row : NeedRow) (cap need : ℕ) → row.node < length needs → slice_index needs row.node < need → need ≤ cap + 1 → ((k : ℕ) → slice_index needs k ≤ cap + 1) → ((other : ℕ → ℕ) → MeetsRow other row → ((t : ℕ) → t < length needs → slice_index needs t ≤ other t) → need ≤ other row.node) → RaisesNeedByRow cap needs (set needs row.node need) row true
rose_row needs row cap need lt below bound capped least = record {
  low = λ other m low k klt. set_at needs row.node need k (λ v. v ≤ other k)
      (λ e. subst (λ (j : ℕ). need ≤ other j) (sym e) (least other m low)) (low k (subst (λ (n : ℕ). k < n) (length-set needs row.node need) klt)) lt;
  capped = λ k. set_at needs row.node need k (λ v. v ≤ cap + 1) (λ e. bound) (capped k) lt;
  grows = λ e. (let s = sum-set needs row.node need lt in omega (arith, s, below));
  same = λ e. (let no : true ≡ false = e in cc);
  met = λ e. (let no : true ≡ false = e in cc);
}

pub passes_more : (cap : ℕ) (old mid new : List ℕ) (seen : List NeedRow) (row : NeedRow) (changed raised next : Bool) → RaisesNeedsByRows cap old mid seen changed → RaisesNeedByRow cap mid new row raised → next ≡ (if raised then true else changed) → RaisesNeedsByRows cap old new (row ∷ seen) next
passes_more cap old mid new seen row changed raised next p r is = record {
  low = λ other m low. r.low other (m row (Contains-append_left (row ∷ []) seen row (Contains-push [] row))) (p.low other (λ q has. m q (Contains-append_right (row ∷ []) seen q has)) low);
  capped = r.capped;
  grows = λ e. grown changed raised next is e p.grows p.same r.grows r.same;
  same = λ e. (let b = both_false raised changed next is e in r.same b.0 ∙ p.same b.1);
  met = λ e q has. (let b = both_false raised changed next is e in elim (Contains-append_cases (row ∷ []) seen q has) [
    | inl here ↦ elim (Contains-push_cases [] row q here) [
      | inl none ↦ absurd (omega (arith, none.1))
      | inr same ↦ subst (λ (k : NeedRow). MeetsRowUpToCap cap new k) same (r.met b.0)
    ]
    | inr behind ↦ subst (λ (l : List ℕ). MeetsRowUpToCap cap l q) (sym (r.same b.0)) (p.met b.1 q behind)
  ]);
} where
  both_false : (a b c : Bool) → c ≡ (if a then true else b) → c ≡ false → (a ≡ false) × (b ≡ false)
  both_false true b c e f = let no : true ≡ false = sym e ∙ f in cc
  both_false false b c e f = (refl, sym e ∙ f)

  grown : (changed raised next : Bool) → next ≡ (if raised then true else changed) → next ≡ true → (changed ≡ true → sum old < sum mid) → (changed ≡ false → mid ≡ old) → (raised ≡ true → sum mid < sum new) → (raised ≡ false → new ≡ mid) → sum old < sum new
  grown true true next e f g s h t = let a = g refl in let b = h refl in omega arith
  grown false true next e f g s h t = subst (λ (l : List ℕ). sum l < sum new) (s refl) (h refl)
  grown true false next e f g s h t = subst (λ (l : List ℕ). sum old < sum l) (sym (t refl)) (g refl)
  grown false false next e f g s h t = let no : false ≡ true = sym e ∙ f in cc

-- one row before those that were passed
pub passes_front : (cap : ℕ) (old mid new : List ℕ) (rows : List NeedRow) (i : ℕ) (row : NeedRow) (changed raised next : Bool) → 0 < i → i ≤ length rows → row ≡ get_or rows (i - 1) row → RaisesNeedsByRows cap old mid (drop i rows) changed → RaisesNeedByRow cap mid new row raised
    → next ≡ (if raised then true else changed) → RaisesNeedsByRows cap old new (drop (i - 1) rows) next
passes_front cap old mid new rows i row changed raised next some few is p r e =
    subst (λ (l : List NeedRow). RaisesNeedsByRows cap old new l next)
    (sym (drop_more rows (i - 1) row (omega arith) ∙ ap (λ (q : NeedRow). q ∷ drop (i - 1 + 1) rows) (sym is) ∙ ap (λ (n : ℕ). row ∷ drop n rows) (omega arith)))
    (passes_more cap old mid new (drop i rows) row changed raised next p r e)

pub sum-le : (xs : List ℕ) (c : ℕ) → ((k : ℕ) → slice_index xs k ≤ c) → sum xs ≤ length xs * c
sum-le xs c h = sum_by-le (λ (x : ℕ). x) c xs (λ k d lt. subst (λ (v : ℕ). v ≤ c) (get_or_default xs k 0 d lt) (h k))

pub falls : (n c s t : ℕ) → s < t → t ≤ n * c → n * c - t < n * c - s
falls n c s t lt le = let m = n * c in falls_at (n * c) s t lt le where
  falls_at : (m s t : ℕ) → s < t → t ≤ m → m - t < m - s
  falls_at m s t lt le = omega arith

-- below the cap, a row that is met up to the cap is met
pub met_uncapped : (cap : ℕ) (needs : List ℕ) (row : NeedRow) → ((k : ℕ) → slice_index needs k ≤ cap) → MeetsRowUpToCap cap needs row → MeetsRow (λ k. slice_index needs k) row
met_uncapped cap needs row low m = record {
  held = (let a = m.held in let b = low row.node in omega (arith, a, b));
  into = λ t has. (let a = m.into t has in let b = low row.node in omega (arith, a, b));
}

-- past the end a need is 0
pub each_low : (needs : List ℕ) (cap : ℕ) → ((k : ℕ) → k < length needs → slice_index needs k ≤ cap) → (k : ℕ) → slice_index needs k ≤ cap
each_low [] cap h k = omega arith
each_low (x ∷ xs) cap h zero = h zero (omega arith)
each_low (x ∷ xs) cap h (suc k) = each_low xs cap (λ j lt. h (suc j) (omega arith)) k

pub take_front : (n : ℕ) (s xs : List ℕ) → n ≡ length s → take n (s ++ xs) ≡ s
take_front n s xs e = subst (λ (k : ℕ). take k (s ++ xs) ≡ s) (sym e) (take-append_seam s xs)

pub answered_none : (nodes cap : ℕ) (rows : List NeedRow) (settled : List ℕ) → length settled ≡ nodes → AreLowerBounds settled rows → ((row : NeedRow) → Contains rows row → MeetsRowUpToCap cap settled row) → ((k : ℕ) → k < length settled → slice_index settled k ≤ cap)
    → (length settled ≡ nodes) × MeetsRows (λ k. slice_index settled k) rows × AreLowerBounds settled rows × ((k : ℕ) → slice_index settled k ≤ cap)
answered_none nodes cap rows settled len low met below = (len, (λ row has. met_uncapped cap settled row (each_low settled cap below) (met row has)), low, each_low settled cap below)

pub answered_some : (nodes cap k : ℕ) (rows : List NeedRow) (settled : List ℕ) → length settled ≡ nodes → AreLowerBounds settled rows → k < length settled → cap < slice_index settled k → (other : ℕ → ℕ) → MeetsRows other rows → (k : ℕ) × (k < nodes) × (cap < other k)
answered_some nodes cap k rows settled len low lt above other m = (k, omega arith, (let h = low other m k lt in omega (arith, h)))
