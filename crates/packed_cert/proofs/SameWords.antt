-- The same bytes at two places, word by word.
use Rattle.std.proofs.Common.{◌≡◌, ℕ, ◌+◌, ◌*◌, ◌<◌, ◌≤◌, ◌^◌, List, length, get_or, take, drop, refl, sym, ap, ◌∙◌, subst, arith, length-append}
use Rattle.std.proofs.lemmas.List.{take_more_same, take-append-drop, length-take, get_or-drop}
use Rattle.tcd_base.specs.Bytes.{word_in_bytes}
use Rattle.packed_cert.specs.RepeatedBytes.{AreBytesRepeated, double_word_in_bytes}
use Rattle.packed_cert.proofs.SameBytes.{Small}

drop_length : (bytes : List ℕ) (x i : ℕ) → x + i < length bytes → i < length (drop x bytes)
drop_length bytes x i h = omega (arith, ap length (take-append-drop x bytes), length-append (take x bytes) (drop x bytes), length-take x bytes)

-- one byte more
pub byte_more : (bytes : List ℕ) (x y i m p q : ℕ) → m ≡ i + 1 → p ≡ x + i → q ≡ y + i → p < length bytes → q < length bytes → take i (drop x bytes) ≡ take i (drop y bytes) → get_or bytes p 0 ≡ get_or bytes q 0
    → take m (drop x bytes) ≡ take m (drop y bytes)
byte_more bytes x y i m p q a b c h k same e =
    let here : get_or (drop x bytes) i 0 ≡ get_or bytes p 0 = get_or-drop x bytes i 0 ∙ ap (λ (j : ℕ). get_or bytes j 0) (sym b) in
    let there : get_or (drop y bytes) i 0 ≡ get_or bytes q 0 = get_or-drop y bytes i 0 ∙ ap (λ (j : ℕ). get_or bytes j 0) (sym c) in
    subst (λ (j : ℕ). take j (drop x bytes) ≡ take j (drop y bytes)) (sym a)
    (take_more_same (drop x bytes) (drop y bytes) i 0 (drop_length bytes x i (omega arith)) (drop_length bytes y i (omega arith)) same (here ∙ e ∙ sym there))

-- equal words have equal bytes
same_parts : (a b c d e f g h : ℕ) → a < 2 ^ 8 → b < 2 ^ 8 → c < 2 ^ 8 → e < 2 ^ 8 → f < 2 ^ 8 → g < 2 ^ 8 → a + b * 256 + c * 65536 + d * 16777216 ≡ e + f * 256 + g * 65536 + h * 16777216
    → (a ≡ e) × (b ≡ f) × (c ≡ g) × (d ≡ h)
same_parts a b c d e f g h al bl cl el fl gl same =
    let first : a ≡ e = omega arith in
    let rest : b + c * 256 + d * 65536 ≡ f + g * 256 + h * 65536 = omega arith in
    let second : b ≡ f = omega arith in
    let more : c + d * 256 ≡ g + h * 256 = omega arith in
    let third : c ≡ g = omega arith in
    (first, second, third, omega arith)

-- one word more
pub word_more : (bytes : List ℕ) (x y i : ℕ) → Small bytes → x + i + 4 ≤ length bytes → y + i + 4 ≤ length bytes → take i (drop x bytes) ≡ take i (drop y bytes) → word_in_bytes bytes (x + i) ≡ word_in_bytes bytes (y + i)
    → take (i + 4) (drop x bytes) ≡ take (i + 4) (drop y bytes)
word_more bytes x y i small h k same e =
    let p = x + i in
    let q = y + i in
    let parts = same_parts (get_or bytes p 0) (get_or bytes (p + 1) 0) (get_or bytes (p + 2) 0) (get_or bytes (p + 3) 0) (get_or bytes q 0) (get_or bytes (q + 1) 0) (get_or bytes (q + 2) 0) (get_or bytes (q + 3) 0)
    (small p) (small (p + 1)) (small (p + 2)) (small q) (small (q + 1)) (small (q + 2)) e in
    let one = byte_more bytes x y i (i + 1) p q refl refl refl (omega arith) (omega arith) same parts.0 in
    let two = byte_more bytes x y (i + 1) (i + 2) (p + 1) (q + 1) (omega arith) (omega arith) (omega arith) (omega arith) (omega arith) one parts.1 in
    let three = byte_more bytes x y (i + 2) (i + 3) (p + 2) (q + 2) (omega arith) (omega arith) (omega arith) (omega arith) (omega arith) two parts.2 in
    byte_more bytes x y (i + 3) (i + 4) (p + 3) (q + 3) (omega arith) (omega arith) (omega arith) (omega arith) (omega arith) three parts.3

word_below : (bytes : List ℕ) (p : ℕ) → Small bytes → word_in_bytes bytes p < 4294967296
word_below bytes p small = omega (arith, small p, small (p + 1), small (p + 2), small (p + 3))

same_halves : (a b c d : ℕ) → a < 4294967296 → c < 4294967296 → a + b * 4294967296 ≡ c + d * 4294967296 → (a ≡ c) × (b ≡ d)
same_halves a b c d h k e =
    let low : a ≡ c = omega arith in
    (low, omega arith)

-- eight bytes more
pub eight_more : (bytes : List ℕ) (x y i : ℕ) → Small bytes → x + i + 8 ≤ length bytes → y + i + 8 ≤ length bytes → AreBytesRepeated bytes x y i → double_word_in_bytes bytes (x + i) ≡ double_word_in_bytes bytes (y + i)
    → AreBytesRepeated bytes x y (i + 8)
eight_more bytes x y i small h k same e =
    let p = x + i in
    let q = y + i in
    let parts = same_halves (word_in_bytes bytes p) (word_in_bytes bytes (p + 4)) (word_in_bytes bytes q) (word_in_bytes bytes (q + 4)) (word_below bytes p small) (word_below bytes q small) e in
    let one : AreBytesRepeated bytes x y (i + 4) = word_more bytes x y i small (omega arith) (omega arith) same parts.0 in
    let first : x + (i + 4) ≡ p + 4 = omega arith in
    let second : q + 4 ≡ y + (i + 4) = omega arith in
    let next = ap (λ (n : ℕ). word_in_bytes bytes n) first ∙ parts.1 ∙ ap (λ (n : ℕ). word_in_bytes bytes n) second in
    let all : i + 4 + 4 ≡ i + 8 = omega arith in
    subst (λ (n : ℕ). AreBytesRepeated bytes x y n) all (word_more bytes x y (i + 4) small (omega arith) (omega arith) one next)
