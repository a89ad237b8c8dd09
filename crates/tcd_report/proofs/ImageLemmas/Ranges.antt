-- Pieces of bytes, one for each number of a range.
use Rattle.std.proofs.Common.{◌≡◌, ◌+◌, ◌*◌, ℕ, zero, suc, List, [], ◌∷◌, ◌++◌, length, sym, ap, ◌∙◌, arith, append_assoc, append-nil, length-append}
use Rattle.std.specs.List.{flat_map, range_with_len}
use Rattle.std.proofs.lemmas.Grind.{flat_map-append}

pub range_more : (a n j : ℕ) → a + n ≡ j → range_with_len a (suc n) ≡ range_with_len a n ++ j ∷ []
range_more a zero j e = let p : a ≡ j = omega arith in ap (λ (x : ℕ). x ∷ []) p
range_more a (suc n) j e = ap (λ (l : List ℕ). a ∷ l) (range_more (a + 1) n j (omega arith))

-- one piece more
pub pieces_more : (f : ℕ → List ℕ) (n : ℕ) (before after : List ℕ) → before ≡ flat_map f (range_with_len 0 n) → after ≡ before ++ f n → after ≡ flat_map f (range_with_len 0 (n + 1))
pieces_more f n before after e h =
    let on : n + 1 ≡ suc n = omega arith in
    let more : range_with_len 0 (n + 1) ≡ range_with_len 0 n ++ n ∷ [] = ap (range_with_len 0) on ∙ range_more 0 n n (omega arith) in
    let all : flat_map f (range_with_len 0 (n + 1)) ≡ flat_map f (range_with_len 0 n) ++ f n =
    ap (flat_map f) more ∙ flat_map-append f (range_with_len 0 n) (n ∷ []) ∙ ap (λ l. flat_map f (range_with_len 0 n) ++ l) (append-nil (f n)) in
    h ∙ ap (λ l. l ++ f n) e ∙ sym all

-- the length of pieces of the same length
pub length-pieces : (f : ℕ → List ℕ) (size : ℕ) → ((i : ℕ) → length (f i) ≡ size) → (a n : ℕ) → length (flat_map f (range_with_len a n)) ≡ size * n
length-pieces f size each a zero = omega arith
length-pieces f size each a (suc n) =
    omega (arith, length-pieces f size each (a + 1) n, each a, length-append (f a) (flat_map f (range_with_len (a + 1) n)))

-- ---- pieces after other bytes
pub joined_three : (o a b c : List ℕ) → ((o ++ a) ++ b) ++ c ≡ o ++ (a ++ (b ++ c))
joined_three o a b c = append_assoc (o ++ a) b c ∙ append_assoc o a (b ++ c)

pub joined_four : (o a b c d : List ℕ) → (((o ++ a) ++ b) ++ c) ++ d ≡ o ++ (a ++ (b ++ (c ++ d)))
joined_four o a b c d = append_assoc ((o ++ a) ++ b) c d ∙ joined_three o a b (c ++ d)
