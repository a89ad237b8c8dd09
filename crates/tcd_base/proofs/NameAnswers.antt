-- Laws of a table of answers, one for each byte.
use Rattle.std.proofs.Common.{◌≡◌, ℕ, zero, suc, ◌+◌, ◌<◌, Bool, true, false, not, if◌then◌else◌, List, [], ◌∷◌, length, slice_index_or, refl, sym, ◌∙◌, ap, arith}
use Rattle.std.proofs.lemmas.Bool.{and_parts}
use Rattle.tcd_base.specs.NameBytes.{is_name_byte, is_name_byte_table_from}

one : (n b : Bool) → (if n then b else not b) ≡ true → b ≡ n
one true b h = h
one false true h = sym h
one false false h = refl

-- the table's answer for a byte is that of the definition
pub answer_is : (b i n : ℕ) (xs : List Bool) → is_name_byte_table_from b xs ≡ true → i < length xs → n ≡ b + i → slice_index_or xs i false ≡ is_name_byte n
answer_is b i n [] h lt is = absurd (omega (arith, lt))
answer_is b zero n (x ∷ xs) h lt is = one (is_name_byte b) x (and_parts (if is_name_byte b then x else not x) (is_name_byte_table_from (b + 1) xs) h).0 ∙ ap is_name_byte (omega (arith, is))
answer_is b (suc i) n (x ∷ xs) h lt is = answer_is (b + 1) i n xs (and_parts (if is_name_byte b then x else not x) (is_name_byte_table_from (b + 1) xs) h).1 (omega (arith, lt)) (omega (arith, is))
