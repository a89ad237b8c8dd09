-- A search can skip rows with another key than the statement's name.
use Rattle.std.proofs.Common.{◌≡◌, ◌<◌, ◌+◌, ◌-◌, ◌==◌, ◌&&◌, ℕ, zero, suc, Bool, true, false, List, [], ◌∷◌, length, get_or, drop, map, Err, refl, sym, ap, ◌∙◌, eq-eqb, arith}
use Rattle.std.specs.Prelude.{not, nat_lt}
use Rattle.std.specs.Str.{bytes_eq}
use Rattle.std.proofs.lemmas.Bool.{and_parts, ltb-true}
use Rattle.std.proofs.lemmas.Bool.Decides.{Decides-eqb}
use Rattle.std.proofs.lemmas.List.{drop-drop, length-map, get_or-map}
use Rattle.std.proofs.lemmas.Slice.Eq.{bytes_eq-Decides}
use Rattle.tc_isa.specs.declared.table.Row.{Row}
use Rattle.tc_isa.specs.Rows.{RowData, row_of}
use Rattle.tc_stmt.specs.declared.tally.Tally.{Tally}
use Rattle.tc_lex.specs.Operands.{OperandData}
use Rattle.tc_stmt.specs.StatementRow.{row_outcome, statement_outcome, found_row_or_next}
use Rattle.tc_stmt.specs.RowIndex.{name_key, are_first_without_key, are_next_rows, are_first_rows}

-- names of other keys differ
other_name : (xs ys : List ℕ) → not (name_key xs == name_key ys) ≡ true → bytes_eq xs ys ≡ false
other_name xs ys h = by (bytes_eq xs ys) refl
  where
    by : (b : Bool) → bytes_eq xs ys ≡ b → b ≡ false
    by false e = refl
    by true e =
        let same : xs ≡ ys = (bytes_eq-Decides xs ys).0 e in
        let alike : (name_key xs == name_key ys) ≡ true = eq-eqb (name_key xs) (name_key ys) (ap (λ zs. name_key zs) same) in
        let wrong : not true ≡ true = ap not (sym alike) ∙ h in
        cc

-- a row of another name changes nothing
other_row : (name : List ℕ) (os : List OperandData) (r : RowData) (t : Tally) → not (name_key r.name == name_key name) ≡ true → row_outcome name os r t ≡ Err t
unfolding row_outcome
other_row name os r t h = rw (other_name r.name name h) refl

skip : (name : List ℕ) (os : List OperandData) (n : ℕ) (rs : List RowData) (k : ℕ) (t : Tally) → are_first_without_key n (name_key name) rs ≡ true → statement_outcome name os rs k t ≡ statement_outcome name os (drop n rs) (k + n) t
unfolding statement_outcome
skip name os zero rs k t h = ap (λ i. statement_outcome name os rs i t) (omega arith)
skip name os (suc n) [] k t h = refl
skip name os (suc n) (r ∷ rs) k t h =
    let parts = and_parts (not (name_key r.name == name_key name)) (are_first_without_key n (name_key name) rs) h in
    ap (λ q. found_row_or_next q k (statement_outcome name os rs (k + 1))) (other_row name os r t parts.0)
    ∙ skip name os n rs (k + 1) t parts.1
    ∙ ap (λ i. statement_outcome name os (drop n rs) i t) (omega arith)

pub skip_first : (name : List ℕ) (os : List OperandData) (rs : List RowData) (n : ℕ) (t : Tally) → are_first_without_key n (name_key name) rs ≡ true → statement_outcome name os rs 0 t ≡ statement_outcome name os (drop n rs) n t
skip_first name os rs n t h = skip name os n rs 0 t h ∙ ap (λ i. statement_outcome name os (drop n rs) i t) (omega arith)

pub skip_next : (name : List ℕ) (os : List OperandData) (rs : List RowData) (i n : ℕ) (t : Tally) → i < n → are_first_without_key (n - (i + 1)) (name_key name) (drop (i + 1) rs) ≡ true
    → statement_outcome name os (drop (i + 1) rs) (i + 1) t ≡ statement_outcome name os (drop n rs) n t
skip_next name os rs i n t later h =
    let there : i + 1 + (n - (i + 1)) ≡ n = omega arith in
    skip name os (n - (i + 1)) (drop (i + 1) rs) (i + 1) t h
    ∙ ap (λ (ks : List RowData). statement_outcome name os ks (i + 1 + (n - (i + 1))) t) (drop-drop (n - (i + 1)) (i + 1) rs)
    ∙ ap (λ m. statement_outcome name os (drop m rs) m t) there

-- ---- the tables
pub first_of : (c : ℕ) (rs : List RowData) (ns : List ℕ) (k : ℕ) → k < length ns → are_first_rows c rs ns ≡ true → are_first_without_key (get_or ns k 0) (c + k) rs ≡ true
first_of c rs [] k within h = absurd (omega arith)
first_of c rs (n ∷ ns) zero within h =
    let parts = and_parts (are_first_without_key n c rs) (are_first_rows (c + 1) rs ns) h in ap (λ d. are_first_without_key n d rs) (omega arith) ∙ parts.0
first_of c rs (n ∷ ns) (suc k) within h =
    let parts = and_parts (are_first_without_key n c rs) (are_first_rows (c + 1) rs ns) h in
    ap (λ d. are_first_without_key (get_or ns k 0) d rs) (omega arith) ∙ first_of (c + 1) rs ns k (omega arith) parts.1

-- a place in the table of next rows
pub record IsNextRow (rs : List RowData) (k i n : ℕ) (r : RowData) : Type 0 where
  pub later : k + i < n
  pub none : are_first_without_key (n - (k + i + 1)) (name_key r.name) (drop (i + 1) rs) ≡ true

pub next_of : (k : ℕ) (rs : List RowData) (ns : List ℕ) (i : ℕ) (d : RowData) → i < length rs → i < length ns → are_next_rows k rs ns ≡ true → IsNextRow rs k i (get_or ns i 0) (get_or rs i d)
next_of k [] ns i d within there h = absurd (omega arith)
next_of k (r ∷ rs) [] i d within there h = absurd (omega arith)
next_of k (r ∷ rs) (n ∷ ns) zero d within there h =
    let parts = and_parts (nat_lt k n && are_first_without_key (n - (k + 1)) (name_key r.name) rs) (are_next_rows (k + 1) rs ns) h in
    let both = and_parts (nat_lt k n) (are_first_without_key (n - (k + 1)) (name_key r.name) rs) parts.0 in
    let behind : k < n = ltb-true k n both.0 in
    let same : n - (k + 0 + 1) ≡ n - (k + 1) = omega arith in
    record { later = omega arith; none = ap (λ m. are_first_without_key m (name_key r.name) rs) same ∙ both.1 }
next_of k (r ∷ rs) (n ∷ ns) (suc i) d within there h =
    let parts = and_parts (nat_lt k n && are_first_without_key (n - (k + 1)) (name_key r.name) rs) (are_next_rows (k + 1) rs ns) h in
    let more : IsNextRow rs (k + 1) i (get_or ns i 0) (get_or rs i d) = next_of (k + 1) rs ns i d (omega arith) (omega arith) parts.1 in
    let c = name_key (get_or rs i d).name in
    let far = get_or ns i 0 - (k + suc i + 1) in
    let place : suc i + 1 ≡ suc (i + 1) = omega arith in
    let same : far ≡ get_or ns i 0 - (k + 1 + i + 1) = omega arith in
    record {
      later = omega (arith, more.later);
      none = ap (λ j. are_first_without_key far c (drop j (r ∷ rs))) place ∙ ap (λ m. are_first_without_key m c (drop (i + 1) rs)) same ∙ more.none;
    }

-- the place after a row that has the key of a name
pub next_behind : (rs : List RowData) (ns : List ℕ) (i : ℕ) (name : List ℕ) (d : RowData) → i < length rs → i < length ns → are_next_rows 0 rs ns ≡ true
    → (name_key (get_or rs i d).name == name_key name) ≡ true → (i < get_or ns i 0) × (are_first_without_key (get_or ns i 0 - (i + 1)) (name_key name) (drop (i + 1) rs) ≡ true)
next_behind rs ns i name d within there h alike =
    let is = next_of 0 rs ns i d within there h in
    let letter : name_key (get_or rs i d).name ≡ name_key name = (Decides-eqb (name_key (get_or rs i d).name) (name_key name)).0 alike in
    let same : get_or ns i 0 - (i + 1) ≡ get_or ns i 0 - (0 + i + 1) = omega arith in
    (omega (arith, is.later), ap (λ m. are_first_without_key m (name_key name) (drop (i + 1) rs)) same ∙ ap (λ c. are_first_without_key (get_or ns i 0 - (0 + i + 1)) c (drop (i + 1) rs)) (sym letter) ∙ is.none)

-- ---- the tables, for values of the code
pub first_right : (rows : List RowData) (ns name : List ℕ) (key result : ℕ) → key < length ns → result ≡ get_or ns key 0 → key ≡ name_key name → are_first_rows 0 rows ns ≡ true
    → are_first_without_key result (name_key name) rows ≡ true
first_right rows ns name key result within e f h =
    let none : are_first_without_key (get_or ns key 0) (0 + key) rows ≡ true = first_of 0 rows ns key within h in
    ap (λ n. are_first_without_key n (name_key name) rows) e ∙ ap (λ c. are_first_without_key (get_or ns key 0) c rows) (sym f) ∙ ap (λ c. are_first_without_key (get_or ns key 0) c rows) (omega arith) ∙ none

pub next_right : (rows : List Row) (ns : List ℕ) (i result : ℕ) (name : List ℕ) (d : Row) (b : Bool) → i < length rows → i < length ns → are_next_rows 0 (map row_of rows) ns ≡ true
    → b ≡ (name_key (row_of (get_or rows i d)).name == name_key name) → b ≡ true → result ≡ get_or ns i 0
    → (i < result) × (are_first_without_key (result - (i + 1)) (name_key name) (drop (i + 1) (map row_of rows)) ≡ true)
next_right rows ns i result name d b within there h e alike f =
    let letter = ap (λ (r : RowData). name_key r.name == name_key name) (get_or-map row_of rows i d (row_of d) within) ∙ sym e ∙ alike in
    let behind = next_behind (map row_of rows) ns i name (row_of d) (rw (length-map rows row_of) within) there h letter in
    (omega (arith, behind.0, f), ap (λ n. are_first_without_key (n - (i + 1)) (name_key name) (drop (i + 1) (map row_of rows))) f ∙ behind.1)
