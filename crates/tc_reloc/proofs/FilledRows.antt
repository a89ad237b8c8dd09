-- The words of instructions with the field of a relocation filled.
use Rattle.std.proofs.Common.{◌≡◌, ◌<◌, ◌+◌, ◌/◌, ◌%◌, ◌^◌, ◌&&◌, ◌||◌, ◌==◌, ◌⊎◌, inl, inr, ℕ, zero, suc, Bool, true, false, List, [], ◌∷◌, Some, refl, sym, ap, subst, ◌∙◌, arith}
use Rattle.std.specs.Prelude.{slice_get, not}
use Rattle.std.specs.List.{list_all}
use Rattle.std.proofs.lemmas.Bool.{and_parts, or_cases}
use Rattle.std.proofs.lemmas.Bool.Decides.{Decides-eqb}
use Rattle.tcd_base.specs.Bytes.{word_in_bytes, bytes_of_word, four_bytes}
use Rattle.tc_isa.specs.declared.fields.Fields.{Fields}
use Rattle.tc_isa.specs.declared.table.Form.{Form}
use Rattle.tc_isa.specs.declared.table.Form.TheVariants.{Rlc, Bol, Brr, Brc, B}
use Rattle.tc_isa.specs.Rows.{RowData, table_rows, is_32_bit_row}
use Rattle.tc_isa.specs.Forms.{field_bounds, second_opcode_bound}
use Rattle.tc_isa.specs.Spelling.{word_of_fields, four_or_two_bytes, spelling, row_word}
use Rattle.tc_isa.specs.InBounds.{AreFieldsBelow}
use Rattle.tc_isa.specs.declared.fields.Uses.{Uses}
use Rattle.tc_isa.specs.ValidRowFields.{used_fields, are_unused_fields_zero, FieldsFitRow, IsRow}
use Rattle.tc_isa.proofs.TableFacts.{row_at}
use Rattle.tc_reloc.specs.Fields.{reloc_field_bound, reloc_field_bits, bits_outside_reloc_field, with_reloc_field}
use Rattle.tc_isa.specs.Relocations.{can_relocation_fill}
use Rattle.tc_reloc.specs.FillingLaws.{FilledFieldsFitRow, FillingSetsOnlyConstant}

-- ---- words
jump_word : (kind op1 op2 n : ℕ) (f : Fields) → op1 < 2 ^ 8 → (kind ≡ 1) ⊎ (kind ≡ 2) → bits_outside_reloc_field kind (word_of_fields B op1 op2 f) + reloc_field_bits kind n ≡ word_of_fields B op1 op2 (record f { k = n })
unfolding bits_outside_reloc_field reloc_field_bits word_of_fields
jump_word kind op1 op2 n f less (inl e) = let P : ℕ → Type 0 = λ k. bits_outside_reloc_field k (word_of_fields B op1 op2 f) + reloc_field_bits k n ≡ word_of_fields B op1 op2 (record f { k = n }) in subst P (sym e) (omega arith)
jump_word kind op1 op2 n f less (inr e) = let P : ℕ → Type 0 = λ k. bits_outside_reloc_field k (word_of_fields B op1 op2 f) + reloc_field_bits k n ≡ word_of_fields B op1 op2 (record f { k = n }) in subst P (sym e) (omega arith)

filled_word : (form : Form) (kind op1 op2 n : ℕ) (f : Fields) → can_relocation_fill form kind ≡ true → op1 < 2 ^ 8 → op2 < second_opcode_bound form → AreFieldsBelow f (field_bounds form) →
    bits_outside_reloc_field kind (word_of_fields form op1 op2 f) + reloc_field_bits kind n ≡ word_of_fields form op1 op2 (record f { k = n })
unfolding bits_outside_reloc_field reloc_field_bits word_of_fields field_bounds second_opcode_bound can_relocation_fill
filled_word B kind op1 op2 n f e less small below = by (or_cases (kind == 1) (kind == 2) e)
  where
    by : (kind == 1 ≡ true) ⊎ (kind == 2 ≡ true) → bits_outside_reloc_field kind (word_of_fields B op1 op2 f) + reloc_field_bits kind n ≡ word_of_fields B op1 op2 (record f { k = n })
    by (inl h) = jump_word kind op1 op2 n f less (inl ((Decides-eqb kind 1).0 h))
    by (inr h) = jump_word kind op1 op2 n f less (inr ((Decides-eqb kind 2).0 h))
filled_word Brr kind op1 op2 n f e less small below =
    let s1 = below.s1 in
    let s2 = below.s2 in
    let k = below.k in
    let P : ℕ → Type 0 = λ i. bits_outside_reloc_field i (word_of_fields Brr op1 op2 f) + reloc_field_bits i n ≡ word_of_fields Brr op1 op2 (record f { k = n }) in
    subst P (sym ((Decides-eqb kind 3).0 e)) (omega arith)
filled_word Brc kind op1 op2 n f e less small below =
    let s1 = below.s1 in
    let s2 = below.s2 in
    let k = below.k in
    let P : ℕ → Type 0 = λ i. bits_outside_reloc_field i (word_of_fields Brc op1 op2 f) + reloc_field_bits i n ≡ word_of_fields Brc op1 op2 (record f { k = n }) in
    subst P (sym ((Decides-eqb kind 3).0 e)) (omega arith)
filled_word Rlc kind op1 op2 n f e less small below = by (or_cases (kind == 4) (kind == 5) e)
  where
    P : ℕ → Type 0
    P i = bits_outside_reloc_field i (word_of_fields Rlc op1 op2 f) + reloc_field_bits i n ≡ word_of_fields Rlc op1 op2 (record f { k = n })

    by : (kind == 4 ≡ true) ⊎ (kind == 5 ≡ true) → P kind
    by (inl h) = let s1 = below.s1 in let k = below.k in subst P (sym ((Decides-eqb kind 4).0 h)) (omega arith)
    by (inr h) = let s1 = below.s1 in let k = below.k in subst P (sym ((Decides-eqb kind 5).0 h)) (omega arith)
filled_word Bol kind op1 op2 n f e less small below =
    let s1 = below.s1 in
    let s2 = below.s2 in
    let P : ℕ → Type 0 = λ i. bits_outside_reloc_field i (word_of_fields Bol op1 op2 f) + reloc_field_bits i n ≡ word_of_fields Bol op1 op2 (record f { k = n }) in
    subst P (sym ((Decides-eqb kind 6).0 e)) (omega arith)
filled_word _ kind op1 op2 n f e less small below = cc

-- four bytes are their word
word_back : (w : ℕ) → word_in_bytes (four_bytes w) 0 ≡ w
word_back w = omega arith

word_bytes : (w : ℕ) → w < 2 ^ 32 → bytes_of_word w ≡ four_bytes w
word_bytes w small =
    let last : w / 16777216 % 256 ≡ w / 2 ^ 24 = omega arith in
    ap (λ n. w % 256 ∷ w / 2 ^ 8 % 256 ∷ w / 2 ^ 16 % 256 ∷ n ∷ []) last

-- a word with a number that the field holds is a word
room_below : (form : Form) (kind op1 op2 n : ℕ) (f : Fields) → can_relocation_fill form kind ≡ true → op1 < 2 ^ 8 → op2 < second_opcode_bound form → AreFieldsBelow f (field_bounds form) → n < reloc_field_bound kind → word_of_fields form op1 op2 (record f { k = n }) < 2 ^ 32
unfolding word_of_fields field_bounds second_opcode_bound can_relocation_fill reloc_field_bound
room_below B kind op1 op2 n f e less small below room = by (or_cases (kind == 1) (kind == 2) e)
  where
    P : ℕ → Type 0
    P i = n < reloc_field_bound i → word_of_fields B op1 op2 (record f { k = n }) < 2 ^ 32

    by : (kind == 1 ≡ true) ⊎ (kind == 2 ≡ true) → word_of_fields B op1 op2 (record f { k = n }) < 2 ^ 32
    by (inl h) = subst P (sym ((Decides-eqb kind 1).0 h)) (λ r. omega arith) room
    by (inr h) = subst P (sym ((Decides-eqb kind 2).0 h)) (λ r. omega arith) room
room_below Brr kind op1 op2 n f e less small below room =
    let s1 = below.s1 in
    let s2 = below.s2 in
    let P : ℕ → Type 0 = λ i. n < reloc_field_bound i → word_of_fields Brr op1 op2 (record f { k = n }) < 2 ^ 32 in
    subst P (sym ((Decides-eqb kind 3).0 e)) (λ r. omega arith) room
room_below Brc kind op1 op2 n f e less small below room =
    let s1 = below.s1 in
    let s2 = below.s2 in
    let P : ℕ → Type 0 = λ i. n < reloc_field_bound i → word_of_fields Brc op1 op2 (record f { k = n }) < 2 ^ 32 in
    subst P (sym ((Decides-eqb kind 3).0 e)) (λ r. omega arith) room
room_below Rlc kind op1 op2 n f e less small below room = by (or_cases (kind == 4) (kind == 5) e)
  where
    P : ℕ → Type 0
    P i = n < reloc_field_bound i → word_of_fields Rlc op1 op2 (record f { k = n }) < 2 ^ 32

    by : (kind == 4 ≡ true) ⊎ (kind == 5 ≡ true) → word_of_fields Rlc op1 op2 (record f { k = n }) < 2 ^ 32
    by (inl h) = let s1 = below.s1 in let c = below.c in subst P (sym ((Decides-eqb kind 4).0 h)) (λ r. omega arith) room
    by (inr h) = let s1 = below.s1 in let c = below.c in subst P (sym ((Decides-eqb kind 5).0 h)) (λ r. omega arith) room
room_below Bol kind op1 op2 n f e less small below room =
    let s1 = below.s1 in
    let s2 = below.s2 in
    let P : ℕ → Type 0 = λ i. n < reloc_field_bound i → word_of_fields Bol op1 op2 (record f { k = n }) < 2 ^ 32 in
    subst P (sym ((Decides-eqb kind 6).0 e)) (λ r. omega arith) room
room_below _ kind op1 op2 n f e less small below room = cc

-- ---- rows
filled_bytes : (kind w v n : ℕ) → bits_outside_reloc_field kind w + reloc_field_bits kind n ≡ v → v < 2 ^ 32 → with_reloc_field kind (four_bytes w) n ≡ four_bytes v
filled_bytes kind w v n same small =
    ap (λ x. bytes_of_word (bits_outside_reloc_field kind x + reloc_field_bits kind n)) (word_back w)
    ∙ ap bytes_of_word same
    ∙ word_bytes v small

pub filled_row : (row : RowData) (f : Fields) (kind n : ℕ) → IsRow row → FieldsFitRow row f → is_32_bit_row row ≡ true → can_relocation_fill row.form kind ≡ true → n < reloc_field_bound kind → with_reloc_field kind (spelling row f) n ≡ spelling row (record f { k = n })
filled_row row f kind n is fit long suited room =
    let first = is.first in
    let less : row.op1 < 2 ^ 8 = omega arith in
    ap (λ b. with_reloc_field kind (four_or_two_bytes b (row_word row f)) n) long
    ∙ filled_bytes kind (row_word row f) (row_word row (record f { k = n })) n (filled_word row.form kind row.op1 row.op2 n f suited less is.second fit.below)
    (room_below row.form kind row.op1 row.op2 n f suited less is.second fit.below room)
    ∙ ap (λ b. four_or_two_bytes b (row_word row (record f { k = n }))) (sym long)

-- every row of these forms has a constant
abbrev takes_field : Form → Bool
takes_field form = can_relocation_fill form 1 || can_relocation_fill form 3 || can_relocation_fill form 4 || can_relocation_fill form 6

abbrev has_constant : RowData → Bool
has_constant r = not (takes_field r.form) || (used_fields r).k

all_have : list_all has_constant table_rows ≡ true
unfolding can_relocation_fill
all_have = refl

field_taken : (form : Form) (kind : ℕ) → can_relocation_fill form kind ≡ true → takes_field form ≡ true
unfolding can_relocation_fill
field_taken B kind e = refl
field_taken Brr kind e = refl
field_taken Brc kind e = refl
field_taken Rlc kind e = refl
field_taken Bol kind e = refl
field_taken _ kind e = cc

passes_at : {A : Type 0} (p : A → Bool) (xs : List A) (k : ℕ) (x : A) → list_all p xs ≡ true → slice_get xs k ≡ Some x → p x ≡ true
passes_at p [] k x all e = cc
passes_at {A} p (y ∷ ys) zero x all e = let same : y ≡ x = cc in ap p (sym same) ∙ (and_parts (p y) (list_all p ys) all).0
passes_at p (y ∷ ys) (suc k) x all e = passes_at p ys k x (and_parts (p y) (list_all p ys) all).1 e

constant_used : (place : ℕ) (row : RowData) (kind : ℕ) → slice_get table_rows place ≡ Some row → can_relocation_fill row.form kind ≡ true → (used_fields row).k ≡ true
constant_used place row kind at e = by (takes_field row.form) (used_fields row).k (field_taken row.form kind e) (passes_at has_constant table_rows place row all_have at)
  where
    by : (a b : Bool) → a ≡ true → (not a || b) ≡ true → b ≡ true
    by true b h g = g
    by false b h g = cc

-- and as wide a field as the relocation fills
constant_fits : (form : Form) (kind n : ℕ) → can_relocation_fill form kind ≡ true → n < reloc_field_bound kind → n < (field_bounds form).k
unfolding can_relocation_fill reloc_field_bound field_bounds
constant_fits B kind n e room = by (or_cases (kind == 1) (kind == 2) e)
  where
    P : ℕ → Type 0
    P i = n < reloc_field_bound i → n < (field_bounds B).k

    by : (kind == 1 ≡ true) ⊎ (kind == 2 ≡ true) → n < (field_bounds B).k
    by (inl h) = subst P (sym ((Decides-eqb kind 1).0 h)) (λ r. r) room
    by (inr h) = subst P (sym ((Decides-eqb kind 2).0 h)) (λ r. r) room
constant_fits Brr kind n e room = let P : ℕ → Type 0 = λ i. n < reloc_field_bound i → n < (field_bounds Brr).k in subst P (sym ((Decides-eqb kind 3).0 e)) (λ r. omega arith) room
constant_fits Brc kind n e room = let P : ℕ → Type 0 = λ i. n < reloc_field_bound i → n < (field_bounds Brc).k in subst P (sym ((Decides-eqb kind 3).0 e)) (λ r. omega arith) room
constant_fits Rlc kind n e room = by (or_cases (kind == 4) (kind == 5) e)
  where
    P : ℕ → Type 0
    P i = n < reloc_field_bound i → n < (field_bounds Rlc).k

    by : (kind == 4 ≡ true) ⊎ (kind == 5 ≡ true) → n < (field_bounds Rlc).k
    by (inl h) = subst P (sym ((Decides-eqb kind 4).0 h)) (λ r. omega arith) room
    by (inr h) = subst P (sym ((Decides-eqb kind 5).0 h)) (λ r. omega arith) room
constant_fits Bol kind n e room = let P : ℕ → Type 0 = λ i. n < reloc_field_bound i → n < (field_bounds Bol).k in subst P (sym ((Decides-eqb kind 6).0 e)) (λ r. omega arith) room
constant_fits _ kind n e room = cc

-- a constant that the row has may be any number
zero_with : (u : Uses) (f : Fields) (n : ℕ) → u.k ≡ true → are_unused_fields_zero u f ≡ true → are_unused_fields_zero u (record f { k = n }) ≡ true
zero_with u f n h z = by u.k (f.k == 0) (n == 0) (u.c || f.c == 0) (u.s1 || f.s1 == 0) (u.s2 || f.s2 == 0) (u.n || f.n == 0) h z
  where
    by : (t a b p q r s : Bool) → t ≡ true → (p && q && r && s && (t || a)) ≡ true → (p && q && r && s && (t || b)) ≡ true
    by true a b p q r s h z = z
    by false a b p q r s h z = cc

pub filled_fits : (place : ℕ) (row : RowData) (f : Fields) (kind n : ℕ) → slice_get table_rows place ≡ Some row → FieldsFitRow row f → can_relocation_fill row.form kind ≡ true → n < reloc_field_bound kind → FieldsFitRow row (record f { k = n })
filled_fits place row f kind n at fit suited room = record {
  below = record { c = fit.below.c; s1 = fit.below.s1; s2 = fit.below.s2; n = fit.below.n; k = constant_fits row.form kind n suited room };
  zero = zero_with (used_fields row) f n (constant_used place row kind at suited) fit.zero;
  apart = fit.apart;
}

-- ---- the laws
pub fits_law : FilledFieldsFitRow
fits_law place row f kind n at fit suited room = filled_fits place row f kind n at fit suited room

pub written_law : FillingSetsOnlyConstant
written_law place row f kind n at fit long suited room = filled_row row f kind n (row_at place row at) fit long suited room
