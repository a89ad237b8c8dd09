-- Decoding of bytes by their number.
use Rattle.std.proofs.Common.{◌≡◌, ◌+◌, ◌*◌, ◌/◌, ◌%◌, ◌^◌, ◌<◌, ◌≤◌, ℕ, Bool, true, false, List, [], ◌∷◌, ◌++◌, length, take, drop, refl, sym, ap, subst, ◌∙◌, arith, ◌==◌, Ok, Err, length-append, length-drop, length-take}
use Rattle.std.specs.Prelude.{All, if◌then◌else◌}
use Rattle.std.proofs.lemmas.Bool.{eq-eqb}
use Rattle.std.proofs.lemmas.List.{take-append-drop}
use Rattle.tc_isa.specs.Forms.{fields_of_word, field_bounds}
use Rattle.tc_isa.specs.Spelling.{word_of_fields, row_word, four_or_two_bytes, spelling}
use Rattle.tc_encode.specs.Decoding.{BeginsWith, IsInstPrefix, decoded_of, instruction_length, row_instruction_length}
use Rattle.tc_isa.specs.Insts.{InstData, IsInst, inst_fields}
use Rattle.tc_isa.specs.Rows.{is_32_bit_row}
use Rattle.tcd_base.specs.Bytes.{two_bytes, four_bytes, number_from_bytes}
use Rattle.tc_isa.proofs.TableFacts.{row_at}
use Rattle.tc_encode.specs.declared.errors.DecodeErr.TheVariants.{Short, NotListed}
use Rattle.tc_encode.specs.WordSearch.{IsWordOf, IsCompletionOf, power_of_256}
use Rattle.tc_encode.proofs.Inverse.{first-word}
use Rattle.tc_encode.proofs.Spelled.{size_spelling}
use Rattle.tc_encode.proofs.Finds.{first_is}
use Rattle.tc_encode.proofs.DecodeProofs.{spelled_decodes, short_is_front, not_listed_is_rest}

-- the first byte of a spelling is the row's first code
head_of : (long : Bool) (w a : ℕ) (more rest : List ℕ) → a ∷ more ≡ four_or_two_bytes long w ++ rest → a ≡ w % 256
head_of true w a more rest e = cc
head_of false w a more rest e = cc

pub first_of_spelling : (i : InstData) (is : IsInst i) (a : ℕ) (more rest : List ℕ) → a ∷ more ≡ spelling is.row (inst_fields i) ++ rest → is.row.op1 ≡ a
first_of_spelling i is a more rest e =
    let row = row_at i.row is.row is.at in
    sym (head_of (is_32_bit_row is.row) (row_word is.row (inst_fields i)) a more rest e ∙ first-word is.row.form is.row.op1 is.row.op2 (inst_fields i) row.first row.second is.fits.below)

-- the number of bytes by the first byte
pub odd_need : (a : ℕ) → a % 2 ≡ 1 → instruction_length a ≡ 4
odd_need a odd = ap (λ b. if b then 4 else 2) (eq-eqb _ _ odd)

pub even_need : (a : ℕ) → a % 2 ≡ 0 → instruction_length a ≡ 2
even_need a even = ap (λ m. if m == 1 then 4 else 2) even

pub length_of_spelling : (i : InstData) (is : IsInst i) (a : ℕ) (more rest : List ℕ) → a ∷ more ≡ spelling is.row (inst_fields i) ++ rest → length (spelling is.row (inst_fields i)) ≡ instruction_length a
length_of_spelling i is a more rest e = size_spelling is.row (inst_fields i) ∙ ap instruction_length (first_of_spelling i is a more rest e)

-- bytes that begin with an instruction
begun : (xs : List ℕ) (i : InstData) (n : ℕ) (b : BeginsWith xs i n) → xs ≡ spelling b.spells.inst.row (inst_fields i) ++ drop n xs
begun xs i n b = sym (take-append-drop n xs) ∙ ap (λ front. front ++ drop n xs) b.spells.is

-- bytes that are enough are not the beginning of one
nonempty : (rest : List ℕ) → length rest ≡ 0 → rest ≡ []
nonempty [] e = refl
nonempty (x ∷ xs) e = absurd (omega arith)

pub no_front : (a : ℕ) (more : List ℕ) → instruction_length a ≤ length (a ∷ more) → IsInstPrefix (a ∷ more) → ⊥
no_front a more enough front =
    let s = front.spells in
    let whole : (a ∷ more) ++ front.rest ≡ spelling s.inst.row (inst_fields front.inst) ++ [] = s.is ∙ sym (append_nil (spelling s.inst.row (inst_fields front.inst))) in
    let size = length_of_spelling front.inst s.inst a (more ++ front.rest) [] whole in
    front.more (nonempty front.rest (omega (arith, length-append (a ∷ more) front.rest, ap length s.is, size)))
  where
    append_nil : (ys : List ℕ) → ys ++ [] ≡ ys
    append_nil [] = refl
    append_nil (y ∷ ys) = ap (λ zs. y ∷ zs) (append_nil ys)

-- too few bytes begin with no instruction
pub none_begins : (a : ℕ) (more : List ℕ) → length (a ∷ more) < instruction_length a → (i : InstData) (n : ℕ) → BeginsWith (a ∷ more) i n → ⊥
none_begins a more few i n b =
    let size = length_of_spelling i b.spells.inst a more (drop n (a ∷ more)) (begun (a ∷ more) i n b) in
    let whole = ap length b.spells.is in
    omega (arith, size, whole, length-take n (a ∷ more))

-- four bytes and their word
four_bytes_of : (w a b c d : ℕ) → w ≡ a + b * 2 ^ 8 + c * 2 ^ 16 + d * 2 ^ 24 → a < 256 → b < 256 → c < 256 → d < 256 → four_bytes w ≡ a ∷ b ∷ c ∷ d ∷ []
four_bytes_of w a b c d e la lb lc ld = let p : w % 256 ≡ a = omega arith in let q : w / 2 ^ 8 % 256 ≡ b = omega arith in let r : w / 2 ^ 16 % 256 ≡ c = omega arith in let s : w / 2 ^ 24 ≡ d = omega arith in rw (p, q, r, s) refl

two_bytes_of : (w a b : ℕ) → w ≡ a + b * 2 ^ 8 → a < 256 → b < 256 → two_bytes w ≡ a ∷ b ∷ []
two_bytes_of w a b e la lb = let p : w % 256 ≡ a = omega arith in let q : w / 256 ≡ b = omega arith in rw (p, q) refl

long_is : (i : InstData) (is : IsInst i) (a : ℕ) → is.row.op1 ≡ a → a % 2 ≡ 1 → is_32_bit_row is.row ≡ true
long_is i is a first odd = ap (λ x. x % 2 == 1) first ∙ eq-eqb _ _ odd

short_is : (i : InstData) (is : IsInst i) (a : ℕ) → is.row.op1 ≡ a → a % 2 ≡ 0 → is_32_bit_row is.row ≡ false
short_is i is a first even = ap (λ x. x % 2 == 1) first ∙ ap (λ m. m == 1) even

pub long_ok : (a b c d w : ℕ) (i : InstData) (rest : List ℕ) → a % 2 ≡ 1 → a < 256 → b < 256 → c < 256 → d < 256 → w ≡ a + b * 2 ^ 8 + c * 2 ^ 16 + d * 2 ^ 24 → IsWordOf w i → decoded_of (a ∷ b ∷ c ∷ d ∷ rest) ≡ Ok (i, 4)
long_ok a b c d w i rest odd la lb lc ld is m =
    let first : m.inst.row.op1 ≡ a = sym (first_is w i m) ∙ omega arith in
    let bytes : a ∷ b ∷ c ∷ d ∷ [] ≡ spelling m.inst.row (inst_fields i) =
    sym (ap (λ l. four_or_two_bytes l (row_word m.inst.row (inst_fields i))) (long_is i m.inst a first odd) ∙ ap four_bytes m.is ∙ four_bytes_of w a b c d is la lb lc ld) in
    spelled_decodes (a ∷ b ∷ c ∷ d ∷ []) rest i (record { inst = m.inst; is = bytes })

four_parts : (w a b c d : ℕ) (more rest : List ℕ) → a ∷ b ∷ c ∷ d ∷ more ≡ four_bytes w ++ rest → w ≡ a + b * 2 ^ 8 + c * 2 ^ 16 + d * 2 ^ 24
four_parts w a b c d more rest e =
    let p : a ≡ w % 256 = cc in let q : b ≡ w / 2 ^ 8 % 256 = cc in let r : c ≡ w / 2 ^ 16 % 256 = cc in let s : d ≡ w / 2 ^ 24 = cc in omega arith

pub long_none : (a b c d w : ℕ) (rest : List ℕ) → a % 2 ≡ 1 → w ≡ a + b * 2 ^ 8 + c * 2 ^ 16 + d * 2 ^ 24 → ((i : InstData) → IsWordOf w i → ⊥) → decoded_of (a ∷ b ∷ c ∷ d ∷ rest) ≡ Err NotListed
long_none a b c d w rest odd is none =
    let xs = a ∷ b ∷ c ∷ d ∷ rest in
    (not_listed_is_rest xs).1 (
      no_front a (b ∷ c ∷ d ∷ rest) (omega (arith, odd_need a odd)),
      λ i n begins.
          let inst = begins.spells.inst in
          let whole = begun xs i n begins in
          let first = first_of_spelling i inst a (b ∷ c ∷ d ∷ rest) (drop n xs) whole in
          let bytes : xs ≡ four_bytes (row_word inst.row (inst_fields i)) ++ drop n xs = whole ∙ ap (λ l. four_or_two_bytes l (row_word inst.row (inst_fields i)) ++ drop n xs) (long_is i inst a first odd) in
          none i (record { inst = inst; is = four_parts _ a b c d rest (drop n xs) bytes ∙ sym is }),
    )

pub short_ok : (a b w : ℕ) (i : InstData) (rest : List ℕ) → a % 2 ≡ 0 → a < 256 → b < 256 → w ≡ a + b * 2 ^ 8 → IsWordOf w i → decoded_of (a ∷ b ∷ rest) ≡ Ok (i, 2)
short_ok a b w i rest even la lb is m =
    let first : m.inst.row.op1 ≡ a = sym (first_is w i m) ∙ omega arith in
    let bytes : a ∷ b ∷ [] ≡ spelling m.inst.row (inst_fields i) =
    sym (ap (λ l. four_or_two_bytes l (row_word m.inst.row (inst_fields i))) (short_is i m.inst a first even) ∙ ap two_bytes m.is ∙ two_bytes_of w a b is la lb) in
    spelled_decodes (a ∷ b ∷ []) rest i (record { inst = m.inst; is = bytes })

two_parts : (w a b : ℕ) (more rest : List ℕ) → a ∷ b ∷ more ≡ two_bytes w ++ rest → w ≡ a + b * 2 ^ 8
two_parts w a b more rest e = let p : a ≡ w % 256 = cc in let q : b ≡ w / 256 = cc in omega arith

pub short_none : (a b w : ℕ) (rest : List ℕ) → a % 2 ≡ 0 → w ≡ a + b * 2 ^ 8 → ((i : InstData) → IsWordOf w i → ⊥) → decoded_of (a ∷ b ∷ rest) ≡ Err NotListed
short_none a b w rest even is none =
    let xs = a ∷ b ∷ rest in
    (not_listed_is_rest xs).1 (
      no_front a (b ∷ rest) (omega (arith, even_need a even)),
      λ i n begins.
          let inst = begins.spells.inst in
          let whole = begun xs i n begins in
          let first = first_of_spelling i inst a (b ∷ rest) (drop n xs) whole in
          let bytes : xs ≡ two_bytes (row_word inst.row (inst_fields i)) ++ drop n xs = whole ∙ ap (λ l. four_or_two_bytes l (row_word inst.row (inst_fields i)) ++ drop n xs) (short_is i inst a first even) in
          none i (record { inst = inst; is = two_parts _ a b rest (drop n xs) bytes ∙ sym is }),
    )

-- one to three bytes and their number
low_bytes : (long : Bool) (w : ℕ) (bytes : List ℕ) → All (λ b. b < 256) bytes → 1 ≤ length bytes → length bytes < (if long then 4 else 2) → w % power_of_256 (length bytes) ≡ number_from_bytes bytes → take (length bytes) (four_or_two_bytes long w) ≡ bytes
low_bytes long w [] all low high is = absurd (omega arith)
low_bytes true w (a ∷ []) all low high is = let p : w % 256 ≡ a = omega arith in rw p refl
low_bytes true w (a ∷ b ∷ []) all low high is =
    let la : a < 256 = all 0 0 (omega arith) in let lb : b < 256 = all 1 0 (omega arith) in
    let p : w % 256 ≡ a = omega arith in let q : w / 2 ^ 8 % 256 ≡ b = omega arith in rw (p, q) refl
low_bytes true w (a ∷ b ∷ c ∷ []) all low high is =
    let la : a < 256 = all 0 0 (omega arith) in let lb : b < 256 = all 1 0 (omega arith) in let lc : c < 256 = all 2 0 (omega arith) in
    let p : w % 256 ≡ a = omega arith in let q : w / 2 ^ 8 % 256 ≡ b = omega arith in let r : w / 2 ^ 16 % 256 ≡ c = omega arith in rw (p, q, r) refl
low_bytes true w (a ∷ b ∷ c ∷ d ∷ more) all low high is = absurd (omega arith)
low_bytes false w (a ∷ []) all low high is = let p : w % 256 ≡ a = omega arith in rw p refl
low_bytes false w (a ∷ b ∷ more) all low high is = absurd (omega arith)

low_number : (long : Bool) (w : ℕ) (bytes rest : List ℕ) → 1 ≤ length bytes → length bytes < (if long then 4 else 2) → bytes ++ rest ≡ four_or_two_bytes long w → w % power_of_256 (length bytes) ≡ number_from_bytes bytes
low_number long w [] rest low high is = absurd (omega arith)
low_number true w (a ∷ []) rest low high is = let p : a ≡ w % 256 = cc in omega arith
low_number true w (a ∷ b ∷ []) rest low high is = let p : a ≡ w % 256 = cc in let q : b ≡ w / 2 ^ 8 % 256 = cc in omega arith
low_number true w (a ∷ b ∷ c ∷ []) rest low high is = let p : a ≡ w % 256 = cc in let q : b ≡ w / 2 ^ 8 % 256 = cc in let r : c ≡ w / 2 ^ 16 % 256 = cc in omega arith
low_number true w (a ∷ b ∷ c ∷ d ∷ more) rest low high is = absurd (omega arith)
low_number false w (a ∷ []) rest low high is = let p : a ≡ w % 256 = cc in omega arith
low_number false w (a ∷ b ∷ more) rest low high is = absurd (omega arith)

-- bytes that can be completed are the beginning of an instruction
pub goes_front : (bytes : List ℕ) (i : InstData) → All (λ b. b < 256) bytes → 1 ≤ length bytes → IsCompletionOf (length bytes) (number_from_bytes bytes) i → IsInstPrefix bytes
goes_front bytes i all low g =
    let s = spelling g.inst.row (inst_fields i) in
    let front : take (length bytes) s ≡ bytes = low_bytes (is_32_bit_row g.inst.row) (row_word g.inst.row (inst_fields i)) bytes all low g.longer g.is in
    record {
      rest = drop (length bytes) s;
      more = λ e. let gone : length (drop (length bytes) s) ≡ 0 = ap length e in omega (arith, gone, length-drop (length bytes) s, size_spelling g.inst.row (inst_fields i), g.longer);
      inst = i;
      spells = record { inst = g.inst; is = ap (λ f. f ++ drop (length bytes) s) (sym front) ∙ take-append-drop (length bytes) s };
    }

pub front_goes : (a : ℕ) (more : List ℕ) → length (a ∷ more) < instruction_length a → (front : IsInstPrefix (a ∷ more)) → IsCompletionOf (length (a ∷ more)) (number_from_bytes (a ∷ more)) front.inst
front_goes a more few front =
    let s = front.spells in
    let first = first_of_spelling front.inst s.inst a (more ++ front.rest) [] (s.is ∙ sym (append_nil (spelling s.inst.row (inst_fields front.inst)))) in
    let longer : length (a ∷ more) < row_instruction_length s.inst.row = subst (λ n. length (a ∷ more) < instruction_length n) (sym first) few in
    record { inst = s.inst; longer = longer; is = low_number (is_32_bit_row s.inst.row) (row_word s.inst.row (inst_fields front.inst)) (a ∷ more) front.rest (omega arith) longer s.is }
  where
    append_nil : (ys : List ℕ) → ys ++ [] ≡ ys
    append_nil [] = refl
    append_nil (y ∷ ys) = ap (λ zs. y ∷ zs) (append_nil ys)

pub front_short : (bytes : List ℕ) (n part first : ℕ) (i : InstData) → 1 ≤ n → n < instruction_length first → first ≡ part % 256 → length bytes ≡ n → All (λ b. b < 256) bytes → number_from_bytes bytes ≡ part → IsCompletionOf n part i → decoded_of bytes ≡ Err Short
front_short [] n part first i low high head len all num g = absurd (omega arith)
front_short (a ∷ more) n part first i low high head len all num g =
    let la : a < 256 = all 0 0 (omega arith) in
    let same : first ≡ a = head ∙ omega (arith, num) in
    let few : length (a ∷ more) < instruction_length a = subst (λ x. length (a ∷ more) < instruction_length x) same (omega (arith, high, len)) in
    let goes : IsCompletionOf (length (a ∷ more)) (number_from_bytes (a ∷ more)) i = subst (λ p. IsCompletionOf (length (a ∷ more)) p i) (sym num) (subst (λ m. IsCompletionOf m part i) (sym len) g) in
    (short_is_front (a ∷ more)).1 (goes_front (a ∷ more) i all (omega arith) goes, none_begins a more few)

pub front_none : (bytes : List ℕ) (n part first : ℕ) → 1 ≤ n → n < instruction_length first → first ≡ part % 256 → length bytes ≡ n → All (λ b. b < 256) bytes → number_from_bytes bytes ≡ part → ((i : InstData) → IsCompletionOf n part i → ⊥) → decoded_of bytes ≡ Err NotListed
front_none [] n part first low high head len all num none = absurd (omega arith)
front_none (a ∷ more) n part first low high head len all num none =
    let la : a < 256 = all 0 0 (omega arith) in
    let same : first ≡ a = head ∙ omega (arith, num) in
    let few : length (a ∷ more) < instruction_length a = subst (λ x. length (a ∷ more) < instruction_length x) same (omega (arith, high, len)) in
    (not_listed_is_rest (a ∷ more)).1
    (λ front. none front.inst (subst (λ p. IsCompletionOf n p front.inst) num (subst (λ m. IsCompletionOf m (number_from_bytes (a ∷ more)) front.inst) len (front_goes a more few front))), none_begins a more few)

-- no bytes are the beginning of an instruction
pub empty_short : (xs : List ℕ) → length xs ≡ 0 → Err Short ≡ decoded_of xs
unfolding decoded_of fields_of_word field_bounds word_of_fields
empty_short [] e = refl
empty_short (x ∷ xs) e = absurd (omega arith)
