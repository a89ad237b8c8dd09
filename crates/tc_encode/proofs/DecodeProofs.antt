-- The laws of decoding.
use Rattle.std.proofs.Common.{◌≡◌, ◌⊎◌, inl, inr, ◌-◌, ◌≤◌, min, ℕ, zero, suc, Bool, true, false, List, [], ◌∷◌, ◌++◌, length, take, drop, refl, sym, ap, subst, ◌∙◌, arith, Option, Some, None, Result, Ok, Err, length-append, length-drop, length-take, zero-add}
use Rattle.std.specs.Prelude.{slice_get, if◌then◌else◌, IfOk}
use Rattle.std.specs.List.{list_any}
use Rattle.std.proofs.lemmas.Bool.{cases_Bool, cond-true, cond-false, both_ways, or_cases, or_left, or_right, false_from_ne_true}
use Rattle.std.proofs.lemmas.List.{take_all, take-append-drop, append-nil, length-take-le}
use Rattle.tc_isa.specs.Rows.{RowData, table_rows, is_32_bit_row}
use Rattle.tc_isa.specs.Insts.{InstData, inst_fields}
use Rattle.tc_isa.specs.ValidRowFields.{least_fields}
use Rattle.tc_isa.specs.Spelling.{row_word, spelling, Spells}
use Rattle.tc_encode.specs.Decoding.{BeginsWith, IsInstPrefix, row_instruction_length, is_prefix_of_row, leading_fields, instruction_at_row, first_row_match, decode_result, decoded_of}
use Rattle.tc_encode.specs.declared.errors.DecodeErr.{DecodeErr}
use Rattle.tc_encode.specs.declared.errors.DecodeErr.TheVariants.{Short, NotListed}
use Rattle.tc_encode.specs.DecodeLaws.{MoreBytesChangeNothing, LengthIsTwoOrFour, DecodedIsSpelled, DecodedIffBytesBegin, SpellingIsDecoded, ShortIsPrefix, NotListedIsNeither, DecodeLaws, BytesSpellAtMostOne, NoSpellingIsPrefix, SpellingLaws}
use Rattle.tc_encode.proofs.Bytes.{word-lt}
use Rattle.tc_isa.proofs.TableFacts.{row_at}
use Rattle.tc_encode.proofs.Spelled.{begins_here, fields_here, fits_there, stands_there, size_spelling}
use Rattle.tc_encode.proofs.Apart.{one_row, one_word}
use Rattle.tc_encode.proofs.Found.{Gives, found_gives, some_found}
use Rattle.tc_encode.proofs.FrontFacts.{front_goes_on, goes_on_short, goes_on_begins}

ok_err : {A E : Type 0} (x : A) (e : E) → Ok x ≡ Err e → ⊥
ok_err x e is = cc

-- what an answer says of the row that was found
ok_answer : (xs : List ℕ) (o : Option (InstData × ℕ)) (p : InstData × ℕ) → decode_result xs o ≡ Ok p → o ≡ Some p
ok_answer xs (Some q) p e = cc
ok_answer xs None p e = elim (cases_Bool (list_any (is_prefix_of_row xs) table_rows)) [
  | inl t ↦ let x : Err Short ≡ Ok p = sym (cond-true (list_any (is_prefix_of_row xs) table_rows) (Err Short) (Err NotListed) t) ∙ e in cc
  | inr t ↦ let x : Err NotListed ≡ Ok p = sym (cond-false (list_any (is_prefix_of_row xs) table_rows) (Err Short) (Err NotListed) t) ∙ e in cc
]

err_answer : (xs : List ℕ) (o : Option (InstData × ℕ)) (e : DecodeErr) → decode_result xs o ≡ Err e → o ≡ None
err_answer xs (Some q) e is = cc
err_answer xs None e is = refl

short_answer : (xs : List ℕ) → decode_result xs None ≡ Err Short → list_any (is_prefix_of_row xs) table_rows ≡ true
short_answer xs e = elim (cases_Bool (list_any (is_prefix_of_row xs) table_rows)) [
  | inl t ↦ t
  | inr t ↦ let x : Err NotListed ≡ Err Short = sym (cond-false {A = Result (InstData × ℕ) DecodeErr} (list_any (is_prefix_of_row xs) table_rows) (Err Short) (Err NotListed) t) ∙ e in cc
]

not_answer : (xs : List ℕ) → decode_result xs None ≡ Err NotListed → list_any (is_prefix_of_row xs) table_rows ≡ false
not_answer xs e = elim (cases_Bool (list_any (is_prefix_of_row xs) table_rows)) [
  | inr t ↦ t
  | inl t ↦ let x : Err Short ≡ Err NotListed = sym (cond-true {A = Result (InstData × ℕ) DecodeErr} (list_any (is_prefix_of_row xs) table_rows) (Err Short) (Err NotListed) t) ∙ e in cc
]

pub ok_found : (xs : List ℕ) (p : InstData × ℕ) → decoded_of xs ≡ Ok p → first_row_match xs 0 table_rows ≡ Some p
unfolding decoded_of
ok_found xs p e = ok_answer xs (first_row_match xs 0 table_rows) p e

pub found_ok : (xs : List ℕ) (p : InstData × ℕ) → first_row_match xs 0 table_rows ≡ Some p → decoded_of xs ≡ Ok p
unfolding decoded_of
found_ok xs p e = ap (decode_result xs) e

err_none : (xs : List ℕ) (e : DecodeErr) → decoded_of xs ≡ Err e → first_row_match xs 0 table_rows ≡ None
unfolding decoded_of
err_none xs e is = err_answer xs (first_row_match xs 0 table_rows) e is

answer_none : (xs : List ℕ) → first_row_match xs 0 table_rows ≡ None → decoded_of xs ≡ decode_result xs None
unfolding decoded_of
answer_none xs e = ap (decode_result xs) e

-- what was found spells the instruction
gives_spells : (xs : List ℕ) (i : InstData) (n : ℕ) → Gives xs 0 table_rows (i, n) → Spells (take n xs) i
gives_spells xs i n g =
    let inst : i ≡ instruction_at_row g.at (leading_fields xs g.row) = ap (λ p. p.0) g.is ∙ ap (λ q. instruction_at_row q (leading_fields xs g.row)) (zero-add g.at) in
    let size : n ≡ row_instruction_length g.row = ap (λ p. p.1) g.is in
    subst (λ j. Spells (take n xs) j) (sym inst) (subst (λ m. Spells (take m xs) (instruction_at_row g.at (leading_fields xs g.row))) (sym size) (record {
      inst = record { row = g.row; at = g.listed; fits = fits_there xs g.row g.begins };
      is = stands_there xs g.row g.begins;
    }))

pub decoded_spells : DecodedIsSpelled
decoded_spells xs i n e = gives_spells xs i n (found_gives xs 0 table_rows (i, n) (ok_found xs (i, n) e))

size_two : (long : Bool) (n : ℕ) → n ≡ (if long then 4 else 2) → (n ≡ 2) ⊎ (n ≡ 4)
size_two true n e = inr e
size_two false n e = inl e

pub lengths_are_right : LengthIsTwoOrFour
lengths_are_right xs i n e =
    let g = found_gives xs 0 table_rows (i, n) (ok_found xs (i, n) e) in
    let size : n ≡ row_instruction_length g.row = ap (λ p. p.1) g.is in
    let whole : min (row_instruction_length g.row) (length xs) ≡ row_instruction_length g.row = sym (length-take (row_instruction_length g.row) xs) ∙ ap length (stands_there xs g.row g.begins) ∙ size_spelling g.row (leading_fields xs g.row) in
    let two = size_two (is_32_bit_row g.row) n size in
    (omega (arith, whole, size), four n two, two)
  where
    four : (n : ℕ) → (n ≡ 2) ⊎ (n ≡ 4) → n ≤ 4
    four n (inl e) = omega arith
    four n (inr e) = omega arith

-- two rows at one place are one
same_row : (p q : ℕ) (r s : RowData) → slice_get table_rows p ≡ Some r → slice_get table_rows q ≡ Some s → p ≡ q → r ≡ s
same_row p q r s at to e = let x : Some r ≡ Some s = sym at ∙ ap (slice_get table_rows) e ∙ to in cc

pub spelled_decodes : SpellingIsDecoded
spelled_decodes bytes rest i spells =
    let r = spells.inst.row in let f = inst_fields i in
    let row = row_at i.row r spells.inst.at in
    let xs = spelling r f ++ rest in
    let some = some_found xs 0 table_rows i.row r spells.inst.at (begins_here r f rest row spells.inst.fits) in
    let g = found_gives xs 0 table_rows some.0 some.1 in
    let sow = row_at g.at g.row g.listed in
    let h = leading_fields xs g.row in
    let gits = fits_there xs g.row g.begins in
    let split : xs ≡ spelling g.row h ++ drop (row_instruction_length g.row) xs = sym (take-append-drop (row_instruction_length g.row) xs) ∙ ap (λ front. front ++ drop (row_instruction_length g.row) xs) (stands_there xs g.row g.begins) in
    let word : row_word r f ≡ row_word g.row h = one_word r g.row f h rest (drop (row_instruction_length g.row) xs) row sow spells.inst.fits gits (word-lt r.form r.op1 r.op2 f row.first row.second spells.inst.fits.below) (word-lt g.row.form g.row.op1 g.row.op2 h sow.first sow.second gits.below) split in
    let place : i.row ≡ g.at = one_row i.row g.at r g.row f h spells.inst.at g.listed spells.inst.fits gits word in
    let rows : r ≡ g.row = same_row i.row g.at r g.row spells.inst.at g.listed place in
    let is : some.0 ≡ (i, row_instruction_length r) =
    g.is
    ∙ ap (λ p. (instruction_at_row p h, row_instruction_length g.row)) (zero-add g.at ∙ sym place)
    ∙ ap (λ s. (instruction_at_row i.row (leading_fields xs s), row_instruction_length s)) (sym rows)
    ∙ ap (λ e. (instruction_at_row i.row e, row_instruction_length r)) (fields_here r f rest row spells.inst.fits) in
    let size : row_instruction_length r ≡ length bytes = sym (size_spelling r f) ∙ sym (ap length spells.is) in
    let done : decoded_of xs ≡ Ok (i, length bytes) = found_ok xs some.0 some.1 ∙ ap (λ p. Ok p) (is ∙ ap (λ n. (i, n)) size) in
    subst (λ bs. decoded_of (bs ++ rest) ≡ Ok (i, length bytes)) (sym spells.is) done

pub more_changes_nothing : MoreBytesChangeNothing
more_changes_nothing xs ys i e =
    spelled_decodes xs ys i (subst (λ bs. Spells bs i) (take_all (length xs) xs (omega arith)) (decoded_spells xs i (length xs) e))

-- what the bytes begin with is decoded
begun_decodes : (xs : List ℕ) (i : InstData) (n : ℕ) → BeginsWith xs i n → decoded_of xs ≡ Ok (i, length (take n xs))
begun_decodes xs i n b = subst (λ bs. decoded_of bs ≡ Ok (i, length (take n xs))) (take-append-drop n xs) (spelled_decodes (take n xs) (drop n xs) i b.spells)

err_begins_none : (xs : List ℕ) (e : DecodeErr) → decoded_of xs ≡ Err e → (i : InstData) (n : ℕ) → BeginsWith xs i n → ⊥
err_begins_none xs e is i n b = ok_err (i, length (take n xs)) e (sym (begun_decodes xs i n b) ∙ is)

none_from : (xs : List ℕ) → ((i : InstData) (n : ℕ) → BeginsWith xs i n → ⊥) → first_row_match xs 0 table_rows ≡ None
none_from xs none = cases (first_row_match xs 0 table_rows) refl
  where
    cases : (o : Option (InstData × ℕ)) → first_row_match xs 0 table_rows ≡ o → first_row_match xs 0 table_rows ≡ None
    cases None e = e
    cases (Some p) e = absurd (none p.0 p.1 (record { within = (lengths_are_right xs p.0 p.1 (found_ok xs p e)).0; spells = decoded_spells xs p.0 p.1 (found_ok xs p e) }))

-- beginnings of instructions
record Ahead (xs : List ℕ) (rows : List RowData) : Type 0 where
  at : ℕ
  row : RowData
  listed : slice_get rows at ≡ Some row
  goes : is_prefix_of_row xs row ≡ true

ahead_from : (xs : List ℕ) (rows : List RowData) → list_any (is_prefix_of_row xs) rows ≡ true → Ahead xs rows
ahead_from xs [] e = cc
ahead_from xs (r ∷ rs) e = elim (or_cases _ _ e) [
  | inl here ↦ record { at = 0; row = r; listed = refl; goes = here }
  | inr there ↦ let a = ahead_from xs rs there in record { at = suc a.at; row = a.row; listed = a.listed; goes = a.goes }
]

any_at : {X : Type 0} (t : X → Bool) (xs : List X) (q : ℕ) (x : X) → slice_get xs q ≡ Some x → t x ≡ true → list_any t xs ≡ true
any_at t [] q x at e = cc
any_at t (y ∷ ys) zero x at e = let same : x ≡ y = cc in or_left _ _ (subst (λ z. t z ≡ true) same e)
any_at t (y ∷ ys) (suc q) x at e = or_right _ _ (any_at t ys q x at e)

front_any : (xs : List ℕ) → IsInstPrefix xs → list_any (is_prefix_of_row xs) table_rows ≡ true
front_any xs front =
    let s = front.spells in
    any_at (is_prefix_of_row xs) table_rows front.inst.row s.inst.row s.inst.at (front_goes_on xs front.rest s.inst.row (inst_fields front.inst) (row_at front.inst.row s.inst.row s.inst.at) s.inst.fits front.more s.is)

ahead_front : (xs : List ℕ) → Ahead xs table_rows → IsInstPrefix xs
ahead_front xs a =
    let rest = drop (length xs) (spelling a.row (least_fields a.row)) in
    let short = goes_on_short xs a.row a.goes in
    let begins = goes_on_begins xs a.row a.goes in
    let left : length rest ≡ row_instruction_length a.row - length xs = length-drop (length xs) (spelling a.row (least_fields a.row)) ∙ ap (λ n. n - length xs) (size_spelling a.row (least_fields a.row)) in
    let size : length (xs ++ rest) ≤ row_instruction_length a.row = omega (arith, length-append xs rest, left, short) in
    let is : xs ++ rest ≡ spelling a.row (leading_fields (xs ++ rest) a.row) = sym (take_all (row_instruction_length a.row) (xs ++ rest) size) ∙ stands_there (xs ++ rest) a.row begins in
    record {
      rest = rest;
      more = λ e. let gone : length rest ≡ 0 = ap length e in omega (arith, gone, left, short);
      inst = instruction_at_row a.at (leading_fields (xs ++ rest) a.row);
      spells = record { inst = record { row = a.row; at = a.listed; fits = fits_there (xs ++ rest) a.row begins }; is = is };
    }

pub short_is_front : ShortIsPrefix
short_is_front xs = (
  λ e. (ahead_front xs (ahead_from xs table_rows (short_answer xs (sym (answer_none xs (err_none xs Short e)) ∙ e))), err_begins_none xs Short e),
  λ p. answer_none xs (none_from xs p.1) ∙ cond-true {A = Result (InstData × ℕ) DecodeErr} (list_any (is_prefix_of_row xs) table_rows) (Err Short) (Err NotListed) (front_any xs p.0),
)

pub not_listed_is_rest : NotListedIsNeither
not_listed_is_rest xs = (
  λ e. (λ front. both_ways _ (not_answer xs (sym (answer_none xs (err_none xs NotListed e)) ∙ e)) (front_any xs front), err_begins_none xs NotListed e),
  λ p. answer_none xs (none_from xs p.1) ∙ cond-false {A = Result (InstData × ℕ) DecodeErr} (list_any (is_prefix_of_row xs) table_rows) (Err Short) (Err NotListed) (false_from_ne_true _ (λ t. p.0 (ahead_front xs (ahead_from xs table_rows t)))),
)

pub decoded_begins : DecodedIffBytesBegin
decoded_begins xs i n = (
  λ e. record { within = (lengths_are_right xs i n e).0; spells = decoded_spells xs i n e },
  λ b. begun_decodes xs i n b ∙ ap (λ m. Ok (i, m)) (length-take-le n xs b.within),
)

pub decode_laws : DecodeLaws
decode_laws = record {
  more = more_changes_nothing;
  lengths = lengths_are_right;
  decoded = decoded_spells;
  begins = decoded_begins;
  spelled = spelled_decodes;
  short = short_is_front;
  not_listed = not_listed_is_rest;
}

-- two answers that are equal give equal values
one_answer : {A E : Type 0} (r : Result A E) (x y : A) → r ≡ Ok x → r ≡ Ok y → x ≡ y
one_answer r x y p q = ok_same x y (sym p ∙ q)
  where
    ok_same : {A E : Type 0} (x y : A) → ◌≡◌ {A = Result A E} (Ok x) (Ok y) → x ≡ y
    ok_same x y e = cc

whole_decodes : (bytes : List ℕ) (i : InstData) → Spells bytes i → decoded_of bytes ≡ Ok (i, length bytes)
whole_decodes bytes i spells = subst (λ bs. decoded_of bs ≡ Ok (i, length bytes)) (append-nil bytes) (spelled_decodes bytes [] i spells)

pub none_spells_two : BytesSpellAtMostOne
none_spells_two bytes i j p q = ap (λ a. a.0) (one_answer (decoded_of bytes) (i, length bytes) (j, length bytes) (whole_decodes bytes i p) (whole_decodes bytes j q))

nothing : (more : List ℕ) → length more ≡ 0 → more ≡ []
nothing [] e = refl
nothing (b ∷ bs) e = absurd (omega arith)

pub none_is_prefix : NoSpellingIsPrefix
none_is_prefix bytes more i j p q =
    let same : length bytes ≡ length (bytes ++ more) = ap (λ a. a.1) (one_answer (decoded_of (bytes ++ more)) (i, length bytes) (j, length (bytes ++ more)) (spelled_decodes bytes more i p) (whole_decodes (bytes ++ more) j q)) in
    nothing more (omega (arith, same, length-append bytes more))

pub spelling_laws : SpellingLaws
spelling_laws = record { one = none_spells_two; apart = none_is_prefix }

-- the number of bytes of an answer
pub sized : (xs : List ℕ) (r : Result (InstData × ℕ) DecodeErr) → r ≡ decoded_of xs → IfOk r (λ p. (2 ≤ p.1) × (p.1 ≤ 4) × (p.1 ≤ length xs))
sized xs (Ok p) e = let h = lengths_are_right xs p.0 p.1 (sym e) in (at_least p.1 h.2, h.1, h.0)
  where
    at_least : (n : ℕ) → (n ≡ 2) ⊎ (n ≡ 4) → 2 ≤ n
    at_least n (inl e) = omega arith
    at_least n (inr e) = omega arith
sized xs (Err e) is = tt
