-- A text has one answer.
use Rattle.std.proofs.Common.{◌≡◌, ◌≢◌, ℕ, zero, suc, ◌+◌, ◌<◌, ◌≤◌, inr, List, [], ◌∷◌, ◌++◌, length, get_or, Option, Some, None, Ok, Err, refl, sym, ap, ◌∙◌, subst, arith}
use Rattle.std.specs.Prelude.{All, Any, filter_map, IsSome, IsSomeAnd}
use Rattle.std.specs.List.{cons_option}
use Rattle.std.proofs.lemmas.List.{length-append, take-append-le}
use Rattle.std.proofs.lemmas.List.Elements.{All-contains, Contains-push, Contains-append_right, filter_map-append}
use Rattle.tcd_plan.specs.PlanData.{PlanData}
use Rattle.tcd_text.specs.Lines.{text_lines}
use Rattle.value_cells.specs.declared.cells.Cell.{Cell}
use Rattle.value_cells.specs.declared.errors.CellsErr.{CellsErr}
use Rattle.value_cells.specs.declared.errors.CellsErr.TheVariants.{BadLine, NotRam, Twice, TooMany}
use Rattle.value_cells.specs.Cells.{with_cells, IsCell, AreCells}
use Rattle.value_cells.specs.CellListText.{cell_of_line, IsCellLine, AreCellsOfText, HasRoomForCell, IsErrOfCell, IsErrOfCellLine, IsErrOfCellText, CellTextHasOneResult}
use Rattle.value_cells.proofs.CellPlan.{take_whole}

-- ---- the first of some cells
front_at : (xs ys : List Cell) (k : ℕ) (d : Cell) → k < length xs → get_or (xs ++ ys) k d ≡ get_or xs k d
front_at [] ys k d lt = absurd (omega arith)
front_at (x ∷ xs) ys zero d lt = refl
front_at (x ∷ xs) ys (suc k) d lt = front_at xs ys k d (omega arith)

last_at : (xs : List Cell) (c d : Cell) → get_or (xs ++ c ∷ []) (length xs) d ≡ c
last_at [] c d = refl
last_at (x ∷ xs) c d = last_at xs c d

front_cells : (plan : PlanData) (xs ys : List Cell) → AreCells plan (xs ++ ys) → AreCells plan xs
front_cells plan xs ys are = record {
  each = λ k d lt. subst (IsCell plan) (front_at xs ys k d lt) (are.each k d (omega (arith, length-append xs ys)));
  once =
      λ i j d lt within.
      subst (λ (a : Cell). a.at ≢ (get_or xs i d).at) (front_at xs ys j d within)
      (subst (λ (a : Cell). (get_or (xs ++ ys) j d).at ≢ a.at) (front_at xs ys i d (omega arith)) (are.once i j d lt (omega (arith, length-append xs ys))));
  few_ram = λ n le. subst (λ (l : List Cell). length (with_cells plan l).ram ≤ 16) (take-append-le n xs ys le) (are.few_ram n (omega (arith, length-append xs ys)));
  few_devices = λ n le. subst (λ (l : List Cell). length (with_cells plan l).devices ≤ 16) (take-append-le n xs ys le) (are.few_devices n (omega (arith, length-append xs ys)));
}

-- ---- one line that is good isn't bad
module _ (plan : PlanData) (cells : List Cell) where
  whole_room : (c : Cell) → AreCells plan (cells ++ c ∷ []) → HasRoomForCell plan cells c
  whole_room c are = record {
    ram = subst (λ (l : List Cell). length (with_cells plan l).ram ≤ 16) (take_whole (cells ++ c ∷ [])) (are.few_ram (length (cells ++ c ∷ [])) (omega arith));
    devices = subst (λ (l : List Cell). length (with_cells plan l).devices ≤ 16) (take_whole (cells ++ c ∷ [])) (are.few_devices (length (cells ++ c ∷ [])) (omega arith));
  }

  not_twice : (c : Cell) → AreCells plan (cells ++ c ∷ []) → Any (λ (d : Cell). d.at ≡ c.at) cells → ⊥
  not_twice c are (k, d, lt, at, eq) =
      let last = subst (λ (a : Cell). a.at ≢ (get_or (cells ++ c ∷ []) k d).at) (last_at cells c d) (are.once k (length cells) d lt (omega (arith, length-append cells (c ∷ [])))) in
      subst (λ (a : Cell). c.at ≢ a.at) (front_at cells (c ∷ []) k d lt ∙ at) last (sym eq)

  not_refused : (n : ℕ) (c : Cell) (e : CellsErr) → AreCells plan (cells ++ c ∷ []) → IsErrOfCell plan cells c n e → ⊥
  not_refused n c (BadLine k) are bad = bad
  not_refused n c (NotRam k) are bad = bad.1 (All-contains (IsCell plan) (cells ++ c ∷ []) c are.each (Contains-push cells c)).in_ram
  not_refused n c (Twice k) are bad = not_twice c are bad.2
  not_refused n c (TooMany k) are bad = bad.3 (whole_room c are)

  of_option : (n : ℕ) (e : CellsErr) (o : Option Cell) → ((c : Cell) → o ≡ Some c → AreCells plan (cells ++ c ∷ [])) → IsSomeAnd o (λ c. IsErrOfCell plan cells c n e) → ⊥
  of_option n e None are bad = absurd bad
  of_option n e (Some c) are bad = not_refused n c e (are c refl) bad

  not_bad : (n : ℕ) (line : List ℕ) (e : CellsErr) → IsCellLine line → ((c : Cell) → cell_of_line line ≡ Some c → AreCells plan (cells ++ c ∷ [])) → IsErrOfCellLine plan cells line n e → ⊥
  not_bad n line (BadLine k) form are bad = bad.1 form
  not_bad n line it form are bad = of_option n it (cell_of_line line) are bad

-- ---- a line among lines that are read
one_more : (before behind : List (List ℕ)) (line : List ℕ) (c : Cell) → cell_of_line line ≡ Some c → filter_map cell_of_line (before ++ line ∷ behind) ≡ (filter_map cell_of_line before ++ c ∷ []) ++ filter_map cell_of_line behind
one_more before behind line c is =
    filter_map-append cell_of_line before (line ∷ behind) ∙ ap (λ o. filter_map cell_of_line before ++ cons_option o (filter_map cell_of_line behind)) is ∙ regroup (filter_map cell_of_line before)
  where
    regroup : (xs : List Cell) → xs ++ c ∷ filter_map cell_of_line behind ≡ (xs ++ c ∷ []) ++ filter_map cell_of_line behind
    regroup [] = refl
    regroup (x ∷ xs) = ap (λ l. x ∷ l) (regroup xs)

module _ (plan : PlanData) (before behind : List (List ℕ)) (line : List ℕ) (all cells : List Cell) (e : CellsErr) where
  good_and_bad : AreCellsOfText plan (before ++ line ∷ behind) all → cells ≡ filter_map cell_of_line before → IsErrOfCellLine plan cells line (length before + 1) e → ⊥
  good_and_bad read named bad =
      let form = All-contains IsCellLine (before ++ line ∷ behind) line read.forms (Contains-append_right before (line ∷ behind) line (0, omega arith, refl)) in
      not_bad plan cells (length before + 1) line e form
      (λ c is. front_cells plan (cells ++ c ∷ []) (filter_map cell_of_line behind)
      (subst (AreCells plan) (read.named ∙ one_more before behind line c is ∙ ap (λ l. (l ++ c ∷ []) ++ filter_map cell_of_line behind) (sym named)) read.are)) bad

-- ---- one thing against a line
module _ (plan : PlanData) (cells : List Cell) where
  none_and_one : (c : Cell) → All (λ (d : Cell). d.at ≢ c.at) cells → Any (λ (d : Cell). d.at ≡ c.at) cells → ⊥
  none_and_one c all (i, d, lt, at, eq) = subst (λ (a : Cell). a.at ≢ c.at) at (all i d lt) eq

  one_refusal : (n : ℕ) (c : Cell) (e f : CellsErr) → IsErrOfCell plan cells c n e → IsErrOfCell plan cells c n f → e ≡ f
  one_refusal n c (BadLine k) f bad worse = absurd bad
  one_refusal n c (NotRam k) (BadLine j) bad worse = absurd worse
  one_refusal n c (NotRam k) (NotRam j) bad worse = ap NotRam (bad.0 ∙ sym worse.0)
  one_refusal n c (NotRam k) (Twice j) bad worse = absurd (bad.1 worse.1)
  one_refusal n c (NotRam k) (TooMany j) bad worse = absurd (bad.1 worse.1)
  one_refusal n c (Twice k) (BadLine j) bad worse = absurd worse
  one_refusal n c (Twice k) (NotRam j) bad worse = absurd (worse.1 bad.1)
  one_refusal n c (Twice k) (Twice j) bad worse = ap Twice (bad.0 ∙ sym worse.0)
  one_refusal n c (Twice k) (TooMany j) bad worse = absurd (none_and_one c worse.2 bad.2)
  one_refusal n c (TooMany k) (BadLine j) bad worse = absurd worse
  one_refusal n c (TooMany k) (NotRam j) bad worse = absurd (worse.1 bad.1)
  one_refusal n c (TooMany k) (Twice j) bad worse = absurd (none_and_one c bad.2 worse.2)
  one_refusal n c (TooMany k) (TooMany j) bad worse = ap TooMany (bad.0 ∙ sym worse.0)

  one_of_option : (n : ℕ) (e f : CellsErr) (o : Option Cell) → IsSomeAnd o (λ c. IsErrOfCell plan cells c n e) → IsSomeAnd o (λ c. IsErrOfCell plan cells c n f) → e ≡ f
  one_of_option n e f None bad worse = absurd bad
  one_of_option n e f (Some c) bad worse = one_refusal n c e f bad worse

  named_line : (n : ℕ) (line : List ℕ) (e : CellsErr) (o : Option Cell) → cell_of_line line ≡ o → IsSomeAnd o (λ c. IsErrOfCell plan cells c n e) → IsCellLine line
  named_line n line e None is bad = absurd bad
  named_line n line e (Some c) is bad = inr (subst IsSome (sym is) refl)

  one_bad : (n : ℕ) (line : List ℕ) (e f : CellsErr) → IsErrOfCellLine plan cells line n e → IsErrOfCellLine plan cells line n f → e ≡ f
  one_bad n line (BadLine k) (BadLine j) bad worse = ap BadLine (bad.0 ∙ sym worse.0)
  one_bad n line (BadLine k) (NotRam j) bad worse = absurd (bad.1 (named_line n line (NotRam j) (cell_of_line line) refl worse))
  one_bad n line (BadLine k) (Twice j) bad worse = absurd (bad.1 (named_line n line (Twice j) (cell_of_line line) refl worse))
  one_bad n line (BadLine k) (TooMany j) bad worse = absurd (bad.1 (named_line n line (TooMany j) (cell_of_line line) refl worse))
  one_bad n line (NotRam k) (BadLine j) bad worse = absurd (worse.1 (named_line n line (NotRam k) (cell_of_line line) refl bad))
  one_bad n line (Twice k) (BadLine j) bad worse = absurd (worse.1 (named_line n line (Twice k) (cell_of_line line) refl bad))
  one_bad n line (TooMany k) (BadLine j) bad worse = absurd (worse.1 (named_line n line (TooMany k) (cell_of_line line) refl bad))
  one_bad n line (NotRam k) (NotRam j) bad worse = one_of_option n (NotRam k) (NotRam j) (cell_of_line line) bad worse
  one_bad n line (NotRam k) (Twice j) bad worse = one_of_option n (NotRam k) (Twice j) (cell_of_line line) bad worse
  one_bad n line (NotRam k) (TooMany j) bad worse = one_of_option n (NotRam k) (TooMany j) (cell_of_line line) bad worse
  one_bad n line (Twice k) (NotRam j) bad worse = one_of_option n (Twice k) (NotRam j) (cell_of_line line) bad worse
  one_bad n line (Twice k) (Twice j) bad worse = one_of_option n (Twice k) (Twice j) (cell_of_line line) bad worse
  one_bad n line (Twice k) (TooMany j) bad worse = one_of_option n (Twice k) (TooMany j) (cell_of_line line) bad worse
  one_bad n line (TooMany k) (NotRam j) bad worse = one_of_option n (TooMany k) (NotRam j) (cell_of_line line) bad worse
  one_bad n line (TooMany k) (Twice j) bad worse = one_of_option n (TooMany k) (Twice j) (cell_of_line line) bad worse
  one_bad n line (TooMany k) (TooMany j) bad worse = one_of_option n (TooMany k) (TooMany j) (cell_of_line line) bad worse

-- ---- two splits of one text
-- they are the same, or the line of one of them is among the first lines of the other
pub data Splits (before before2 : List (List ℕ)) (line line2 : List ℕ) : Type 0 where
  same : before ≡ before2 → line ≡ line2 → Splits before before2 line line2
  earlier : (rest : List (List ℕ)) → before2 ≡ before ++ line ∷ rest → Splits before before2 line line2
  later : (rest : List (List ℕ)) → before ≡ before2 ++ line2 ∷ rest → Splits before before2 line line2

first_same : (x y : List ℕ) (xs ys : List (List ℕ)) → x ∷ xs ≡ y ∷ ys → (x ≡ y) × (xs ≡ ys)
first_same x y xs ys e = (cc, cc)

splits : (before before2 behind behind2 : List (List ℕ)) (line line2 : List ℕ) → before ++ line ∷ behind ≡ before2 ++ line2 ∷ behind2 → Splits before before2 line line2
splits [] [] behind behind2 line line2 e = same refl (first_same line line2 behind behind2 e).0
splits [] (y ∷ ys) behind behind2 line line2 e = let p = first_same line y behind (ys ++ line2 ∷ behind2) e in earlier ys (ap (λ l. l ∷ ys) (sym p.0))
splits (x ∷ xs) [] behind behind2 line line2 e = let p = first_same x line2 (xs ++ line ∷ behind) behind2 e in later xs (ap (λ l. l ∷ xs) p.0)
splits (x ∷ xs) (y ∷ ys) behind behind2 line line2 e =
    let p = first_same x y (xs ++ line ∷ behind) (ys ++ line2 ∷ behind2) e in
    elim (splits xs ys behind behind2 line line2 p.1) [
      | same b l ↦ same (ap (λ z. z ∷ xs) p.0 ∙ ap (λ zs. y ∷ zs) b) l
      | earlier rest b ↦ earlier rest (ap (λ z. z ∷ ys) (sym p.0) ∙ ap (λ zs. x ∷ zs) b)
      | later rest b ↦ later rest (ap (λ z. z ∷ xs) p.0 ∙ ap (λ zs. y ∷ zs) b)
    ]

module _ (plan : PlanData) (lines : List (List ℕ)) where
  ok_and_bad : (all : List Cell) (e : CellsErr) → AreCellsOfText plan lines all → IsErrOfCellText plan lines e → ⊥
  ok_and_bad all e read first = good_and_bad plan first.before first.behind first.line all first.cells e (subst (λ (l : List (List ℕ)). AreCellsOfText plan l all) first.split read) (first.read).named first.bad

  one_first : (e f : CellsErr) → IsErrOfCellText plan lines e → IsErrOfCellText plan lines f → e ≡ f
  one_first e f a b =
      elim (splits a.before b.before a.behind b.behind a.line b.line (sym a.split ∙ b.split)) [
        | same before line ↦
            let cells : a.cells ≡ b.cells = (a.read).named ∙ ap (λ l. filter_map cell_of_line l) before ∙ sym (b.read).named in
            let count : length a.before ≡ length b.before = ap (λ (l : List (List ℕ)). length l) before in
            let moved = subst (λ (l : List ℕ). IsErrOfCellLine plan a.cells l (length a.before + 1) e) line a.bad in
            let counted = subst (λ n. IsErrOfCellLine plan a.cells b.line (n + 1) e) count moved in
            one_bad plan b.cells (length b.before + 1) b.line e f (subst (λ (cs : List Cell). IsErrOfCellLine plan cs b.line (length b.before + 1) e) cells counted) b.bad
        | earlier rest before ↦
            absurd (good_and_bad plan a.before rest a.line b.cells a.cells e (subst (λ (l : List (List ℕ)). AreCellsOfText plan l b.cells) before b.read) (a.read).named a.bad)
        | later rest before ↦
            absurd (good_and_bad plan b.before rest b.line a.cells b.cells f (subst (λ (l : List (List ℕ)). AreCellsOfText plan l a.cells) before a.read) (b.read).named b.bad)
      ]

pub reads_one : CellTextHasOneResult
reads_one plan bytes (Ok a) (Ok b) h k = ap Ok (h.named ∙ sym k.named)
reads_one plan bytes (Ok a) (Err f) h k = absurd (ok_and_bad plan (text_lines bytes) a f h k)
reads_one plan bytes (Err e) (Ok b) h k = absurd (ok_and_bad plan (text_lines bytes) b e k h)
reads_one plan bytes (Err e) (Err f) h k = ap Err (one_first plan (text_lines bytes) e f h k)
