-- Little-endian numbers in lists of bytes: their bounds, and reading back what was written.
use Rattle.std.proofs.Common.{◌≡◌, ◌+◌, ◌*◌, ◌/◌, ◌%◌, ◌^◌, ◌<◌, ◌≤◌, ℕ, List, [], ◌∷◌, ◌++◌, length, get_or, take, drop, refl, sym, ap, ◌∙◌, arith}
use Rattle.std.proofs.lemmas.List.{get_or-append-add, drop_more}
use Rattle.tcd_base.specs.Bytes.{half_in_bytes, word_in_bytes, bytes_of_half, bytes_of_word}

-- an element after a front
pub get_or-behind : (front xs : List ℕ) (j i : ℕ) → j ≡ length front + i → get_or (front ++ xs) j 0 ≡ get_or xs i 0
get_or-behind front xs j i e = ap (λ k. get_or (front ++ xs) k 0) e ∙ get_or-append-add front xs i 0

-- a number of two bytes after a front
pub half_at-behind : (front xs : List ℕ) (j i : ℕ) → j ≡ length front + i → half_in_bytes (front ++ xs) j ≡ half_in_bytes xs i
half_at-behind front xs j i e =
    let a = get_or-behind front xs j i e in
    let b = get_or-behind front xs (j + 1) (i + 1) (omega arith) in
    omega arith

-- a number of four bytes after a front
pub word_at-behind : (front xs : List ℕ) (j i : ℕ) → j ≡ length front + i → word_in_bytes (front ++ xs) j ≡ word_in_bytes xs i
word_at-behind front xs j i e =
    let a = get_or-behind front xs j i e in
    let b = get_or-behind front xs (j + 1) (i + 1) (omega arith) in
    let c = get_or-behind front xs (j + 2) (i + 2) (omega arith) in
    let d = get_or-behind front xs (j + 3) (i + 3) (omega arith) in
    omega arith

-- a number of two bytes, written and read
pub half_at-bytes_of_half : (x : ℕ) (rest : List ℕ) → x < 2 ^ 16 → half_in_bytes (bytes_of_half x ++ rest) 0 ≡ x
half_at-bytes_of_half x rest h = omega arith

-- a number of four bytes, written and read
pub word_at-bytes_of_word : (x : ℕ) (rest : List ℕ) → x < 2 ^ 32 → word_in_bytes (bytes_of_word x ++ rest) 0 ≡ x
word_at-bytes_of_word x rest h = omega arith

-- a number of two bytes, written after a front and read
pub half_at-written : (front : List ℕ) (x : ℕ) (rest : List ℕ) → x < 2 ^ 16 → half_in_bytes (front ++ (bytes_of_half x ++ rest)) (length front) ≡ x
half_at-written front x rest h = half_at-behind front (bytes_of_half x ++ rest) (length front) 0 (omega arith) ∙ half_at-bytes_of_half x rest h

pub word_at-written : (front : List ℕ) (x : ℕ) (rest : List ℕ) → x < 2 ^ 32 → word_in_bytes (front ++ (bytes_of_word x ++ rest)) (length front) ≡ x
word_at-written front x rest h = word_at-behind front (bytes_of_word x ++ rest) (length front) 0 (omega arith) ∙ word_at-bytes_of_word x rest h

-- numbers made of bytes are in the range of their types
pub half_at_below : (bytes : List ℕ) (place : ℕ) → ((k : ℕ) → get_or bytes k 0 < 256) → half_in_bytes bytes place < 2 ^ 16
half_at_below bytes place h = let a = h place in let b = h (place + 1) in omega arith

pub word_at_below : (bytes : List ℕ) (place : ℕ) → ((k : ℕ) → get_or bytes k 0 < 256) → word_in_bytes bytes place < 2 ^ 32
word_at_below bytes place h = let a = h place in let b = h (place + 1) in let c = h (place + 2) in let d = h (place + 3) in omega arith

-- two and four bytes are the bytes of the number they spell
two_of : (a b : ℕ) → a < 256 → b < 256 → bytes_of_half (a + b * 256) ≡ a ∷ b ∷ []
two_of a b p q =
    let l : (a + b * 256) % 256 ≡ a = omega arith in
    let h : (a + b * 256) / 256 % 256 ≡ b = omega arith in
    rw (l, h) refl

four_of : (a b c d : ℕ) → a < 256 → b < 256 → c < 256 → d < 256 → bytes_of_word (a + b * 256 + c * 65536 + d * 16777216) ≡ a ∷ b ∷ c ∷ d ∷ []
four_of a b c d p q r s =
    let x : ℕ = a + b * 256 + c * 65536 + d * 16777216 in
    let e0 : x % 256 ≡ a = omega arith in
    let e1 : x / 256 % 256 ≡ b = omega arith in
    let e2 : x / 65536 % 256 ≡ c = omega arith in
    let e3 : x / 16777216 % 256 ≡ d = omega arith in
    rw (e0, e1, e2, e3) refl

-- a part of two and of four elements
taken_two : (bytes : List ℕ) (place : ℕ) → place + 2 ≤ length bytes → take 2 (drop place bytes) ≡ get_or bytes place 0 ∷ get_or bytes (place + 1) 0 ∷ []
taken_two bytes place h =
    let e0 = drop_more bytes place 0 (omega arith) in
    let e1 = drop_more bytes (place + 1) 0 (omega arith) in
    rw (e0, e1) refl

taken_four : (bytes : List ℕ) (place : ℕ) → place + 4 ≤ length bytes → take 4 (drop place bytes) ≡ get_or bytes place 0 ∷ get_or bytes (place + 1) 0 ∷ get_or bytes (place + 2) 0 ∷ get_or bytes (place + 3) 0 ∷ []
taken_four bytes place h =
    let e0 = drop_more bytes place 0 (omega arith) in
    let e1 = drop_more bytes (place + 1) 0 (omega arith) in
    let e2 = drop_more bytes (place + 1 + 1) 0 (omega arith) in
    let e3 = drop_more bytes (place + 1 + 1 + 1) 0 (omega arith) in
    let s2 : place + 1 + 1 ≡ place + 2 = omega arith in
    let s3 : place + 1 + 1 + 1 ≡ place + 3 = omega arith in
    rw (e0, e1, e2, e3) (cc)

pub bytes_of_half-half_at : (bytes : List ℕ) (place : ℕ) → ((k : ℕ) → get_or bytes k 0 < 256) → place + 2 ≤ length bytes → bytes_of_half (half_in_bytes bytes place) ≡ take 2 (drop place bytes)
bytes_of_half-half_at bytes place h in_bytes = two_of _ _ (h place) (h (place + 1)) ∙ sym (taken_two bytes place in_bytes)

pub bytes_of_word-word_at : (bytes : List ℕ) (place : ℕ) → ((k : ℕ) → get_or bytes k 0 < 256) → place + 4 ≤ length bytes → bytes_of_word (word_in_bytes bytes place) ≡ take 4 (drop place bytes)
bytes_of_word-word_at bytes place h in_bytes = four_of _ _ _ _ (h place) (h (place + 1)) (h (place + 2)) (h (place + 3)) ∙ sym (taken_four bytes place in_bytes)
