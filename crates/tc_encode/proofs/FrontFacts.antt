-- Bytes that are the beginning of an instruction are completed by the row's least fields.
use Rattle.std.proofs.Common.{◌≡◌, ◌≢◌, ◌+◌, ◌*◌, ◌/◌, ◌%◌, ◌^◌, ◌<◌, ◌≤◌, ℕ, zero, suc, Bool, true, false, List, [], ◌∷◌, ◌++◌, length, take, drop, refl, sym, ap, subst, ◌∙◌, arith, length-append}
use Rattle.std.specs.Prelude.{if◌then◌else◌}
use Rattle.std.proofs.lemmas.Bool.{and_parts, and_from, ltb-true, lt-ltb}
use Rattle.std.proofs.lemmas.List.{take_at, append-nil}
use Rattle.tc_isa.specs.declared.fields.Fields.{Fields}
use Rattle.tc_isa.specs.Rows.{RowData, is_32_bit_row}
use Rattle.tc_encode.specs.WordSearch.{with_low_bytes}
use Rattle.tc_isa.specs.ValidRowFields.{FieldsFitRow, IsRow, least_fields}
use Rattle.tc_isa.specs.Spelling.{row_word, four_or_two_bytes, spelling}
use Rattle.tc_encode.specs.Decoding.{row_instruction_length, begins_with_row, is_prefix_of_row}
use Rattle.tc_encode.proofs.Complete.{completed}
use Rattle.tc_encode.proofs.Spelled.{begins_here, size_spelling}

-- the bytes of a mixed number
mixed_bytes : (long : Bool) (n a b : ℕ) → 1 ≤ n → n < (if long then 4 else 2) → four_or_two_bytes long (with_low_bytes n a b) ≡ take n (four_or_two_bytes long a) ++ drop n (four_or_two_bytes long b)
mixed_bytes long zero a b low high = absurd (omega arith)
mixed_bytes true (suc zero) a b low high =
    let p : (a % 2 ^ 8 + b / 2 ^ 8 * 2 ^ 8) % 256 ≡ a % 256 = omega arith in
    let q : (a % 2 ^ 8 + b / 2 ^ 8 * 2 ^ 8) / 2 ^ 8 % 256 ≡ b / 2 ^ 8 % 256 = omega arith in
    let r : (a % 2 ^ 8 + b / 2 ^ 8 * 2 ^ 8) / 2 ^ 16 % 256 ≡ b / 2 ^ 16 % 256 = omega arith in
    let s : (a % 2 ^ 8 + b / 2 ^ 8 * 2 ^ 8) / 2 ^ 24 ≡ b / 2 ^ 24 = omega arith in rw (p, q, r, s) refl
mixed_bytes true (suc (suc zero)) a b low high =
    let p : (a % 2 ^ 16 + b / 2 ^ 16 * 2 ^ 16) % 256 ≡ a % 256 = omega arith in
    let q : (a % 2 ^ 16 + b / 2 ^ 16 * 2 ^ 16) / 2 ^ 8 % 256 ≡ a / 2 ^ 8 % 256 = omega arith in
    let r : (a % 2 ^ 16 + b / 2 ^ 16 * 2 ^ 16) / 2 ^ 16 % 256 ≡ b / 2 ^ 16 % 256 = omega arith in
    let s : (a % 2 ^ 16 + b / 2 ^ 16 * 2 ^ 16) / 2 ^ 24 ≡ b / 2 ^ 24 = omega arith in rw (p, q, r, s) refl
mixed_bytes true (suc (suc (suc zero))) a b low high =
    let p : (a % 2 ^ 24 + b / 2 ^ 24 * 2 ^ 24) % 256 ≡ a % 256 = omega arith in
    let q : (a % 2 ^ 24 + b / 2 ^ 24 * 2 ^ 24) / 2 ^ 8 % 256 ≡ a / 2 ^ 8 % 256 = omega arith in
    let r : (a % 2 ^ 24 + b / 2 ^ 24 * 2 ^ 24) / 2 ^ 16 % 256 ≡ a / 2 ^ 16 % 256 = omega arith in
    let s : (a % 2 ^ 24 + b / 2 ^ 24 * 2 ^ 24) / 2 ^ 24 ≡ b / 2 ^ 24 = omega arith in rw (p, q, r, s) refl
mixed_bytes true (suc (suc (suc (suc n)))) a b low high = absurd (omega arith)
mixed_bytes false (suc zero) a b low high =
    let p : (a % 2 ^ 8 + b / 2 ^ 8 * 2 ^ 8) % 256 ≡ a % 256 = omega arith in
    let q : (a % 2 ^ 8 + b / 2 ^ 8 * 2 ^ 8) / 256 ≡ b / 256 = omega arith in rw (p, q) refl
mixed_bytes false (suc (suc n)) a b low high = absurd (omega arith)

size_small : (long : Bool) → (if long then 4 else 2) ≤ 4
size_small true = omega arith
size_small false = omega arith

least_goes_on : (r : RowData) → IsRow r → begins_with_row (spelling r (least_fields r)) r ≡ true
least_goes_on r row = subst (λ bs. begins_with_row bs r ≡ true) (append-nil (spelling r (least_fields r))) (begins_here r (least_fields r) [] row row.has_least)

-- the first n bytes, completed
gone_on : (r : RowData) (f : Fields) (n : ℕ) → IsRow r → FieldsFitRow r f → n < row_instruction_length r → begins_with_row (take n (spelling r f) ++ drop n (spelling r (least_fields r))) r ≡ true
gone_on r f zero row fits short = least_goes_on r row
gone_on r f (suc n) row fits short =
    let x = completed r (suc n) f row fits (omega arith) (omega (arith, size_small (is_32_bit_row r))) in
    let is : spelling r x.0 ≡ take (suc n) (spelling r f) ++ drop (suc n) (spelling r (least_fields r)) =
    ap (four_or_two_bytes (is_32_bit_row r)) x.2 ∙ mixed_bytes (is_32_bit_row r) (suc n) (row_word r f) (row_word r (least_fields r)) (omega arith) short in
    subst (λ bs. begins_with_row bs r ≡ true) (append-nil (spelling r x.0) ∙ is) (begins_here r x.0 [] row x.1)

has_some : (rest : List ℕ) → rest ≢ [] → 1 ≤ length rest
has_some [] some = absurd (some refl)
has_some (b ∷ bs) some = omega arith

pub front_goes_on : (bytes rest : List ℕ) (r : RowData) (f : Fields) → IsRow r → FieldsFitRow r f → rest ≢ [] → bytes ++ rest ≡ spelling r f → is_prefix_of_row bytes r ≡ true
front_goes_on bytes rest r f row fits some is =
    let size : length bytes + length rest ≡ row_instruction_length r = sym (length-append bytes rest) ∙ ap length is ∙ size_spelling r f in
    let short : length bytes < row_instruction_length r = omega (arith, has_some rest some, size) in
    let front : take (length bytes) (spelling r f) ≡ bytes = ap (take (length bytes)) (sym is) ∙ take_at bytes rest (length bytes) refl in
    and_from _ _ (lt-ltb _ _ short) (subst (λ bs. begins_with_row (bs ++ drop (length bytes) (spelling r (least_fields r))) r ≡ true) front (gone_on r f (length bytes) row fits short))

-- bytes that are completed are fewer than the row's
pub goes_on_short : (bytes : List ℕ) (r : RowData) → is_prefix_of_row bytes r ≡ true → length bytes < row_instruction_length r
goes_on_short bytes r e = ltb-true _ _ (and_parts _ _ e).0

pub goes_on_begins : (bytes : List ℕ) (r : RowData) → is_prefix_of_row bytes r ≡ true → begins_with_row (bytes ++ drop (length bytes) (spelling r (least_fields r))) r ≡ true
goes_on_begins bytes r e = (and_parts _ _ e).1
