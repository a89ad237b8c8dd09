-- Bytes written over zeros.
use Rattle.std.proofs.Common.{◌≡◌, ◌∙◌, ◌≤◌, ◌+◌, ◌-◌, ◌/◌, ◌%◌, ◌++◌, ◌∷◌, [], ◌<◌, ℕ, suc, true, false, List, get_or, length, replicate, set, take, drop, ap, sym, refl, arith}
use Rattle.std.specs.List.{flat_map}
use Rattle.std.proofs.lemmas.List.Concat.{flat_map-append}
use Rattle.std.proofs.lemmas.List.{append-nil, append_assoc, length-append, length-replicate, replicate-append-replicate, set-append_right, drop-take, take-append-drop, take-take, take_more}
use Rattle.std.proofs.Math.Seq.{take-append_seam}
use Rattle.tcd_base.specs.Bytes.{bytes_of_word}
use Rattle.value_domain.specs.declared.values.Val.TheVariants.{Set, Span}
use Rattle.value_domain.specs.Values.{is_span_of_all_words}
use Rattle.depth_cert.specs.Spelling.{bytes_of_value}
use Rattle.small_states.specs.Zeros.{AreZerosAfter}

set_at : (front ys : List ℕ) (n k y : ℕ) → length front ≡ n → set (front ++ ys) (n + k) y ≡ front ++ set ys k y
set_at front ys n k y e = set-append_right front ys n (n + k) y e (omega arith) ∙ (let i : (n + k) - n ≡ k = omega arith in ap (λ (j : ℕ). front ++ set ys j y) i)

set_first : (front ys : List ℕ) (n y : ℕ) → length front ≡ n → set (front ++ ys) n y ≡ front ++ set ys 0 y
set_first front ys n y e = set-append_right front ys n n y e (omega arith) ∙ (let i : n - n ≡ 0 = omega arith in ap (λ (j : ℕ). front ++ set ys j y) i)

-- four bytes over four zeros
four_set : (front rest : List ℕ) (n a b c d : ℕ) → length front ≡ n
    → set (set (set (set (front ++ 0 ∷ 0 ∷ 0 ∷ 0 ∷ rest) n a) (n + 1) b) (n + 2) c) (n + 3) d ≡ front ++ a ∷ b ∷ c ∷ d ∷ rest
four_set front rest n a b c d is =
    ap (λ (l : List ℕ). set (set (set l (n + 1) b) (n + 2) c) (n + 3) d) (set_first front (0 ∷ 0 ∷ 0 ∷ 0 ∷ rest) n a is)
    ∙ ap (λ (l : List ℕ). set (set l (n + 2) c) (n + 3) d) (set_at front (a ∷ 0 ∷ 0 ∷ 0 ∷ rest) n 1 b is)
    ∙ ap (λ (l : List ℕ). set l (n + 3) d) (set_at front (a ∷ b ∷ 0 ∷ 0 ∷ rest) n 2 c is)
    ∙ set_at front (a ∷ b ∷ c ∷ 0 ∷ rest) n 3 d is

-- five bytes over five zeros
five_set : (front rest : List ℕ) (n a b c d e : ℕ) → length front ≡ n
    → set (set (set (set (set (front ++ 0 ∷ 0 ∷ 0 ∷ 0 ∷ 0 ∷ rest) n a) (n + 1) b) (n + 2) c) (n + 3) d) (n + 4) e ≡ front ++ a ∷ b ∷ c ∷ d ∷ e ∷ rest
five_set front rest n a b c d e is =
    ap (λ (l : List ℕ). set l (n + 4) e) (
    ap (λ (l : List ℕ). set (set (set l (n + 1) b) (n + 2) c) (n + 3) d) (set_first front (0 ∷ 0 ∷ 0 ∷ 0 ∷ 0 ∷ rest) n a is)
    ∙ ap (λ (l : List ℕ). set (set l (n + 2) c) (n + 3) d) (set_at front (a ∷ 0 ∷ 0 ∷ 0 ∷ 0 ∷ rest) n 1 b is)
    ∙ ap (λ (l : List ℕ). set l (n + 3) d) (set_at front (a ∷ b ∷ 0 ∷ 0 ∷ 0 ∷ rest) n 2 c is)
    ∙ set_at front (a ∷ b ∷ c ∷ 0 ∷ 0 ∷ rest) n 3 d is)
    ∙ set_at front (a ∷ b ∷ c ∷ d ∷ 0 ∷ rest) n 4 e is

-- the bytes of a word's value
one-bytes : (x : ℕ) → bytes_of_value (Set (x ∷ [])) ≡ 1 ∷ x % 256 ∷ x / 256 % 256 ∷ x / 65536 % 256 ∷ x / 16777216 % 256 ∷ []
unfolding bytes_of_value
one-bytes x = refl

-- a word's value over five zeros
one_written : (front rest : List ℕ) (n x : ℕ) → length front ≡ n
    → set (set (set (set (set (front ++ 0 ∷ 0 ∷ 0 ∷ 0 ∷ 0 ∷ rest) n 1) (n + 1) (x % 256)) (n + 2) (x / 256 % 256)) (n + 3) (x / 65536 % 256)) (n + 4) (x / 16777216 % 256)
    ≡ (front ++ bytes_of_value (Set (x ∷ []))) ++ rest
one_written front rest n x is =
    five_set front rest n 1 (x % 256) (x / 256 % 256) (x / 65536 % 256) (x / 16777216 % 256) is
    ∙ sym
    (ap (λ (l : List ℕ). (front ++ l) ++ rest) (one-bytes x)
    ∙ append_assoc front (1 ∷ x % 256 ∷ x / 256 % 256 ∷ x / 65536 % 256 ∷ x / 16777216 % 256 ∷ []) rest)

-- n bytes and then zeros
taken : (front bytes : List ℕ) (n : ℕ) → length front ≡ n → bytes ≡ front ++ replicate (192 - n) 0 → take n bytes ≡ front
taken front bytes n long is =
    ap (λ (l : List ℕ). take n l) is
    ∙ ap (λ (m : ℕ). take m (front ++ replicate (192 - n) 0)) (sym long)
    ∙ take-append_seam front (replicate (192 - n) 0)

behind : (front bytes : List ℕ) (n : ℕ) → n ≤ 192 → length front ≡ n → bytes ≡ front ++ replicate (192 - n) 0 → AreZerosAfter n bytes
behind front bytes n within long is =
    let same : take n bytes ≡ front = taken front bytes n long is in
    record {
      within = within;
      long = ap (λ (l : List ℕ). length l) same ∙ long;
      zeros = is ∙ ap (λ (l : List ℕ). l ++ replicate (192 - n) 0) (sym same);
    }

-- ---- a byte, a word, zeros after n bytes
module _ (bytes : List ℕ) (n : ℕ) (so_far : AreZerosAfter n bytes) where
  abbrev front : List ℕ
  front = take n bytes

  module _ (x : ℕ) (room : n + 1 ≤ 192) where
    byte_is : set bytes n x ≡ (front ++ x ∷ []) ++ replicate (192 - (n + 1)) 0
    byte_is =
        let k : ℕ = 192 - (n + 1) in
        let count : 192 - n ≡ suc k = omega arith in
        ap (λ (l : List ℕ). set l n x) (so_far.zeros ∙ ap (λ (m : ℕ). front ++ replicate m 0) count)
        ∙ set_first front (0 ∷ replicate k 0) n x so_far.long
        ∙ sym (append_assoc front (x ∷ []) (replicate k 0))

    byte_long : length (front ++ x ∷ []) ≡ n + 1
    byte_long = length-append front (x ∷ []) ∙ ap (λ (m : ℕ). m + 1) so_far.long

    pub byte_behind : AreZerosAfter (n + 1) (set bytes n x)
    byte_behind = behind (front ++ x ∷ []) (set bytes n x) (n + 1) room byte_long byte_is

    pub byte_taken : take (n + 1) (set bytes n x) ≡ front ++ x ∷ []
    byte_taken = taken (front ++ x ∷ []) (set bytes n x) (n + 1) byte_long byte_is

  module _ (x : ℕ) (room : n + 4 ≤ 192) where
    abbrev word_set : List ℕ
    word_set = set (set (set (set bytes n (x % 256)) (n + 1) (x / 256 % 256)) (n + 2) (x / 65536 % 256)) (n + 3) (x / 16777216 % 256)

    word_is : word_set ≡ (front ++ bytes_of_word x) ++ replicate (192 - (n + 4)) 0
    word_is =
        let k : ℕ = 192 - (n + 4) in
        let count : 192 - n ≡ suc (suc (suc (suc k))) = omega arith in
        ap (λ (l : List ℕ). set (set (set (set l n (x % 256)) (n + 1) (x / 256 % 256)) (n + 2) (x / 65536 % 256)) (n + 3) (x / 16777216 % 256))
        (so_far.zeros ∙ ap (λ (m : ℕ). front ++ replicate m 0) count)
        ∙ four_set front (replicate k 0) n (x % 256) (x / 256 % 256) (x / 65536 % 256) (x / 16777216 % 256) so_far.long
        ∙ sym (append_assoc front (bytes_of_word x) (replicate k 0))

    word_long : length (front ++ bytes_of_word x) ≡ n + 4
    word_long = length-append front (bytes_of_word x) ∙ ap (λ (m : ℕ). m + 4) so_far.long

    pub word_behind : AreZerosAfter (n + 4) word_set
    word_behind = behind (front ++ bytes_of_word x) word_set (n + 4) room word_long word_is

    pub word_taken : take (n + 4) word_set ≡ front ++ bytes_of_word x
    word_taken = taken (front ++ bytes_of_word x) word_set (n + 4) word_long word_is

  module _ (more : ℕ) (room : n + more ≤ 192) where
    zeros_are : bytes ≡ (front ++ replicate more 0) ++ replicate (192 - (n + more)) 0
    zeros_are =
        let k : ℕ = 192 - (n + more) in
        let count : 192 - n ≡ more + k = omega arith in
        so_far.zeros
        ∙ ap (λ (m : ℕ). front ++ replicate m 0) count
        ∙ ap (λ (l : List ℕ). front ++ l) (sym (replicate-append-replicate more k 0))
        ∙ sym (append_assoc front (replicate more 0) (replicate k 0))

    zeros_long : length (front ++ replicate more 0) ≡ n + more
    zeros_long =
        let many : length (replicate more 0) ≡ more = length-replicate {A = ℕ} more 0 in
        omega (arith, length-append front (replicate more 0), many, so_far.long)

    pub zeros_taken : take (n + more) bytes ≡ front ++ replicate more 0
    zeros_taken = taken (front ++ replicate more 0) bytes (n + more) zeros_long zeros_are

  -- a word's value after zeros
  module _ (anys x : ℕ) (room : n + anys + 5 ≤ 192) where
    abbrev one_set : List ℕ
    one_set =
        set (set (set (set (set bytes (n + anys) 1) (n + anys + 1) (x % 256)) (n + anys + 2) (x / 256 % 256)) (n + anys + 3) (x / 65536 % 256)) (n + anys + 4) (x / 16777216 % 256)

    abbrev one_front : List ℕ
    one_front = front ++ replicate anys 0

    one_is : one_set ≡ (one_front ++ bytes_of_value (Set (x ∷ []))) ++ replicate (192 - (n + anys + 5)) 0
    one_is =
        let k : ℕ = 192 - (n + anys + 5) in
        let count : 192 - (n + anys) ≡ suc (suc (suc (suc (suc k)))) = omega arith in
        ap (λ (l : List ℕ). set (set (set (set (set l (n + anys) 1) (n + anys + 1) (x % 256)) (n + anys + 2) (x / 256 % 256)) (n + anys + 3) (x / 65536 % 256)) (n + anys + 4) (x / 16777216 % 256))
        (zeros_are anys (omega arith) ∙ ap (λ (m : ℕ). one_front ++ replicate m 0) count)
        ∙ one_written one_front (replicate k 0) (n + anys) x (zeros_long anys (omega arith))

    one_long : length (one_front ++ bytes_of_value (Set (x ∷ []))) ≡ n + anys + 5
    one_long =
        length-append one_front (bytes_of_value (Set (x ∷ [])))
        ∙ ap (λ (m : ℕ). m + length (bytes_of_value (Set (x ∷ [])))) (zeros_long anys (omega arith))
        ∙ ap (λ (l : List ℕ). n + anys + length l) (one-bytes x)

    pub one_behind : AreZerosAfter (n + anys + 5) one_set
    one_behind = behind (one_front ++ bytes_of_value (Set (x ∷ []))) one_set (n + anys + 5) room one_long one_is

    pub one_taken : take (n + anys + 5) one_set ≡ one_front ++ bytes_of_value (Set (x ∷ []))
    one_taken = taken (one_front ++ bytes_of_value (Set (x ∷ []))) one_set (n + anys + 5) one_long one_is

-- ---- words one after another
-- one more word
pub words_more : (words : List ℕ) (i : ℕ) → i < length words → flat_map bytes_of_word (take i words) ++ bytes_of_word (get_or words i 0) ≡ flat_map bytes_of_word (take (i + 1) words)
words_more words i lt =
    let x : ℕ = get_or words i 0 in
    sym (flat_map-append bytes_of_word (take i words) (x ∷ [])) ∙ ap (λ (l : List ℕ). flat_map bytes_of_word l) (sym (take_more words i 0 lt))

-- more words
pub words_further : (words : List ℕ) (i k : ℕ) → flat_map bytes_of_word (take i words) ++ flat_map bytes_of_word (take k (drop i words)) ≡ flat_map bytes_of_word (take (i + k) words)
words_further words i k =
    sym (flat_map-append bytes_of_word (take i words) (take k (drop i words)))
    ∙ ap (λ (l : List ℕ). flat_map bytes_of_word l)
    (ap (λ (l : List ℕ). l ++ take k (drop i words)) (sym (take-take i (i + k) words (omega arith)))
    ∙ ap (λ (l : List ℕ). take i (take (i + k) words) ++ l) (sym (drop-take i k words))
    ∙ take-append-drop i (take (i + k) words))

-- ---- a range's value
pub all_bytes : (lo last step : ℕ) → is_span_of_all_words lo last step ≡ true → bytes_of_value (Span lo last step) ≡ 0 ∷ []
unfolding bytes_of_value
all_bytes lo last step e = rw e refl

pub range_bytes : (lo last step : ℕ) → is_span_of_all_words lo last step ≡ false → bytes_of_value (Span lo last step) ≡ (240 + step) ∷ bytes_of_word lo ++ (bytes_of_word last ++ [])
unfolding bytes_of_value
range_bytes lo last step e = rw e (ap (λ (l : List ℕ). (240 + step) ∷ bytes_of_word lo ++ l) (sym (append-nil (bytes_of_word last))))
