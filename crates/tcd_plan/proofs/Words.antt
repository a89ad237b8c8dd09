-- The numbers in a document are below 2^32.
use Rattle.std.proofs.Common.{◌≡◌, ℕ, ◌<◌, ◌≤◌, ◌^◌, Bool, true, false, ◌&&◌, ◌==◌, cond, nat_lt, nat_le, List, [], ◌∷◌, length, Option, Some, None, option_and_then, unwrap_or, refl, arith}
use Rattle.std.specs.List.{list_all}
use Rattle.std.specs.Str.Parse.{digits_value, AllDigits}
use Rattle.std.proofs.lemmas.Bool.{and_parts, leb-true, ltb-true}
use Rattle.std.proofs.lemmas.Int.Digits.{digits_value-lt}
use Rattle.std.proofs.Math.Nat.{pow-le-pow_right}
use Rattle.serde_json.specs.Data.{unsigned, negative, float, Data, null, boolean, number, string, array, object}
use Rattle.serde_json.specs.Find.{get}
use Rattle.tcd_plan.specs.JsonValues.{json_hex_number, is_json_hex, json_number_at, json_number_of, hex_string_value, json_number_if_word, json_number_or_zero, json_nested_number}

abbrev IsSmall : Option ℕ → Type 0
IsSmall None = Unit {0}
IsSmall (Some n) = n < 2 ^ 32

small_where : (b : Bool) (n : ℕ) → (b ≡ true → n < 2 ^ 32) → IsSmall (cond b (Some n) None)
small_where true n h = h refl
small_where false n h = tt

small_if : (b : Bool) (o : Option ℕ) → IsSmall o → IsSmall (cond b o None)
small_if true o h = h
small_if false o h = tt

small_then : {T : Type 0} (f : T → Option ℕ) (o : Option T) → ((x : T) → IsSmall (f x)) → IsSmall (option_and_then f o)
small_then f None h = tt
small_then f (Some x) h = h x

small_or : (o : Option ℕ) → IsSmall o → unwrap_or o 0 < 2 ^ 32
small_or None h = omega arith
small_or (Some n) h = h

digits_of : (cs : List ℕ) → list_all is_json_hex cs ≡ true → AllDigits 16 cs
digits_of [] e = tt
digits_of (c ∷ cs) e = let parts = and_parts (is_json_hex c) (list_all is_json_hex cs) e in (ltb-true _ _ parts.0, digits_of cs parts.1)

hex_word-small : (digits : List ℕ) → IsSmall (json_hex_number digits)
hex_word-small digits =
    small_where _ (digits_value 16 digits) (λ e.
    let parts = and_parts (nat_le 1 (length digits) && nat_le (length digits) 8) (list_all is_json_hex digits) e in
    let few = leb-true _ _ (and_parts (nat_le 1 (length digits)) (nat_le (length digits) 8) parts.0).1 in
    let most : digits_value 16 digits < 16 ^ length digits = digits_value-lt 16 digits (digits_of digits parts.1) in
    let bound : 16 ^ length digits ≤ 16 ^ 8 = pow-le-pow_right (omega arith) few in
    omega arith)

text_word-small : (text : List ℕ) → IsSmall (hex_string_value text)
text_word-small [] = tt
text_word-small (a ∷ []) = tt
text_word-small (a ∷ b ∷ digits) = small_if (a == 48 && b == 120) (json_hex_number digits) (hex_word-small digits)

word-small : (n : ℕ) → IsSmall (json_number_if_word n)
word-small n = small_where (nat_lt n (2 ^ 32)) n (ltb-true n (2 ^ 32))

number_of-small : (d : Data) → IsSmall (json_number_of d)
number_of-small null = tt
number_of-small (boolean b) = tt
number_of-small (number (unsigned n)) = word-small n
number_of-small (number (negative z)) = tt
number_of-small (number (float x)) = tt
number_of-small (string s) = text_word-small s
number_of-small (array ds) = tt
number_of-small (object ms) = tt

number_at-small : (name : List ℕ) (d : Data) → IsSmall (json_number_at name d)
number_at-small name d = small_then json_number_of (get name d) number_of-small

pub word_at-lt : (name : List ℕ) (d : Data) → json_number_or_zero name d < 2 ^ 32
word_at-lt name d = small_or (json_number_at name d) (number_at-small name d)

pub word_in-lt : (outer name : List ℕ) (d : Data) → json_nested_number outer name d < 2 ^ 32
word_in-lt outer name d = small_or _ (small_then (json_number_at name) (get outer d) (number_at-small name))
