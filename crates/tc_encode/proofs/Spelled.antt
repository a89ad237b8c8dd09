-- The front of bytes, compared with a row.
use Rattle.std.proofs.Common.{◌≡◌, ◌^◌, ◌<◌, ℕ, Bool, true, false, List, ◌++◌, length, take, refl, sym, ap, ◌∙◌, arith}
use Rattle.std.specs.Prelude.{if◌then◌else◌}
use Rattle.std.proofs.lemmas.Bool.{and_parts, and_from, ltb-true, lt-ltb}
use Rattle.std.proofs.lemmas.Slice.Eq.{bytes_eq-Decides}
use Rattle.std.proofs.lemmas.List.{take_at}
use Rattle.tc_isa.specs.declared.fields.Fields.{Fields}
use Rattle.tc_isa.specs.Rows.{RowData, is_32_bit_row}
use Rattle.tc_isa.specs.Forms.{field_bounds, fields_of_word}
use Rattle.tc_isa.specs.InBounds.{AreFieldsBelow, are_fields_below}
use Rattle.tc_isa.specs.ValidRowFields.{FieldsFitRow, IsRow}
use Rattle.tc_isa.specs.Spelling.{row_word, four_or_two_bytes, spelling}
use Rattle.tcd_base.specs.Bytes.{two_bytes, four_bytes, number_from_bytes}
use Rattle.tc_encode.specs.Decoding.{row_instruction_length, decoded_fields_fit, leading_fields, begins_with_row}
use Rattle.tc_encode.proofs.Inverse.{fields-word}
use Rattle.tc_encode.proofs.Bytes.{word-lt}

-- fields that pass the test of the bounds
pub below_from : (f b : Fields) → are_fields_below f b ≡ true → AreFieldsBelow f b
below_from f b e =
    let p = and_parts _ _ e in let q = and_parts _ _ p.0 in let r = and_parts _ _ q.0 in let s = and_parts _ _ r.0 in
    record { c = ltb-true _ _ s.0; s1 = ltb-true _ _ s.1; s2 = ltb-true _ _ r.1; n = ltb-true _ _ q.1; k = ltb-true _ _ p.1 }

pub below_true : (f b : Fields) → AreFieldsBelow f b → are_fields_below f b ≡ true
below_true f b e = and_from _ _ (and_from _ _ (and_from _ _ (and_from _ _ (lt-ltb _ _ e.c) (lt-ltb _ _ e.s1)) (lt-ltb _ _ e.s2)) (lt-ltb _ _ e.n)) (lt-ltb _ _ e.k)

pub fits_from : (r : RowData) (f : Fields) → decoded_fields_fit r f ≡ true → FieldsFitRow r f
fits_from r f e =
    let p = and_parts _ _ e in let q = and_parts _ _ p.0 in
    record { below = below_from f (field_bounds r.form) q.0; zero = q.1; apart = p.1 }

pub fits_true : (r : RowData) (f : Fields) → FieldsFitRow r f → decoded_fields_fit r f ≡ true
fits_true r f fits = and_from _ _ (and_from _ _ (below_true f (field_bounds r.form) fits.below) fits.zero) fits.apart

-- a row's spelling has the row's size
size_spelled : (long : Bool) (w : ℕ) → length (four_or_two_bytes long w) ≡ (if long then 4 else 2)
size_spelled true w = refl
size_spelled false w = refl

pub size_spelling : (r : RowData) (f : Fields) → length (spelling r f) ≡ row_instruction_length r
size_spelling r f = size_spelled (is_32_bit_row r) (row_word r f)

-- the number of a spelling is its word
four_number : (w : ℕ) → w < 2 ^ 32 → number_from_bytes (four_bytes w) ≡ w
four_number w h = omega arith

two_number : (w : ℕ) → number_from_bytes (two_bytes w) ≡ w
two_number w = omega arith

spelled_number : (long : Bool) (w : ℕ) → w < 2 ^ 32 → number_from_bytes (four_or_two_bytes long w) ≡ w
spelled_number true w h = four_number w h
spelled_number false w h = two_number w

pub front_is : (r : RowData) (f : Fields) (rest : List ℕ) → take (row_instruction_length r) (spelling r f ++ rest) ≡ spelling r f
front_is r f rest = take_at (spelling r f) rest (row_instruction_length r) (size_spelling r f)

-- the fields in a spelling are those that it spells
pub fields_here : (r : RowData) (f : Fields) (rest : List ℕ) → IsRow r → FieldsFitRow r f → leading_fields (spelling r f ++ rest) r ≡ f
fields_here r f rest row fits =
    ap (λ bs. fields_of_word r.form (number_from_bytes bs)) (front_is r f rest)
    ∙ ap (fields_of_word r.form) (spelled_number (is_32_bit_row r) (row_word r f) (word-lt r.form r.op1 r.op2 f row.first row.second fits.below))
    ∙ fields-word r.form r.op1 r.op2 f row.first row.second fits.below

-- bytes that begin with a spelling of the row pass the test
pub begins_here : (r : RowData) (f : Fields) (rest : List ℕ) → IsRow r → FieldsFitRow r f → begins_with_row (spelling r f ++ rest) r ≡ true
begins_here r f rest row fits =
    let same = fields_here r f rest row fits in
    and_from _ _
    (ap (decoded_fields_fit r) same ∙ fits_true r f fits)
    ((bytes_eq-Decides _ _).1 (front_is r f rest ∙ sym (ap (spelling r) same)))

-- bytes that pass the test begin with fields that fit
pub fits_there : (bytes : List ℕ) (r : RowData) → begins_with_row bytes r ≡ true → FieldsFitRow r (leading_fields bytes r)
fits_there bytes r e = fits_from r (leading_fields bytes r) (and_parts _ _ e).0

pub stands_there : (bytes : List ℕ) (r : RowData) → begins_with_row bytes r ≡ true → take (row_instruction_length r) bytes ≡ spelling r (leading_fields bytes r)
stands_there bytes r e = (bytes_eq-Decides _ _).0 (and_parts _ _ e).1
