-- Bytes that are compared one after another.
use Rattle.std.proofs.Common.{◌≡◌, ◌≢◌, ◌<◌, ◌≤◌, ◌+◌, ℕ, Bool, true, false, List, ◌∷◌, length, get_or, drop, refl, ap, sym, ◌∙◌}
use Rattle.std.specs.Str.{bytes_eq}
use Rattle.std.proofs.lemmas.List.{drop_more, drop_all}
use Rattle.std.proofs.lemmas.Slice.Eq.{bytes_eq-Decides}

other_lengths : (a b : List ℕ) (t : Bool) → bytes_eq a b ≡ t → length a ≢ length b → false ≡ t
other_lengths a b true e h = absurd (h (ap length ((bytes_eq-Decides a b).0 e)))
other_lengths a b false e h = refl

-- texts of other lengths aren't the same
pub lengths_differ : (a b : List ℕ) → length a ≢ length b → false ≡ bytes_eq a b
lengths_differ a b h = other_lengths a b (bytes_eq a b) refl h

other_heads : (x y : ℕ) (a b : List ℕ) (t : Bool) → bytes_eq (x ∷ a) (y ∷ b) ≡ t → x ≢ y → false ≡ t
other_heads x y a b true e h = let same : (x ∷ a) ≡ (y ∷ b) = (bytes_eq-Decides (x ∷ a) (y ∷ b)).0 e in absurd (h cc)
other_heads x y a b false e h = refl

module _ (a b : List ℕ) (i : ℕ) (all : Bool) (so_far : bytes_eq (drop i a) (drop i b) ≡ all) where
  parts : (d : ℕ) → i < length a → i < length b → bytes_eq (get_or a i d ∷ drop (i + 1) a) (get_or b i d ∷ drop (i + 1) b) ≡ all
  parts d h k = sym (ap (λ x. bytes_eq x (drop i b)) (drop_more a i d h) ∙ ap (bytes_eq (get_or a i d ∷ drop (i + 1) a)) (drop_more b i d k)) ∙ so_far

  -- a byte that differs
  pub byte_differs : (d : ℕ) → i < length a → i < length b → get_or a i d ≢ get_or b i d → false ≡ all
  byte_differs d h k other = other_heads (get_or a i d) (get_or b i d) (drop (i + 1) a) (drop (i + 1) b) all (parts d h k) other

  -- the texts agree at one byte and after it
  pub byte_same : (d : ℕ) → i < length a → i < length b → get_or a i d ≡ get_or b i d → bytes_eq (drop (i + 1) a) (drop (i + 1) b) ≡ all
  byte_same d h k same = heads_same (get_or a i d) (get_or b i d) (drop (i + 1) a) (drop (i + 1) b) all same (parts d h k)
    where
      nat_same : (x : ℕ) (xs ys : List ℕ) (t u : Bool) → bytes_eq (x ∷ xs) (x ∷ ys) ≡ t → bytes_eq xs ys ≡ u → u ≡ t
      nat_same x xs ys true true e f = refl
      nat_same x xs ys false false e f = refl
      nat_same x xs ys true false e f =
          let same : (x ∷ xs) ≡ (x ∷ ys) = (bytes_eq-Decides (x ∷ xs) (x ∷ ys)).0 e in
          let rest : xs ≡ ys = cc in
          sym f ∙ (bytes_eq-Decides xs ys).1 rest
      nat_same x xs ys false true e f =
          let same : xs ≡ ys = (bytes_eq-Decides xs ys).0 f in
          sym ((bytes_eq-Decides (x ∷ xs) (x ∷ ys)).1 (ap (λ (zs : List ℕ). x ∷ zs) same)) ∙ e

      heads_same : (x y : ℕ) (xs ys : List ℕ) (t : Bool) → x ≡ y → bytes_eq (x ∷ xs) (y ∷ ys) ≡ t → bytes_eq xs ys ≡ t
      heads_same x y xs ys t e f = nat_same x xs ys t (bytes_eq xs ys) (ap (λ z. bytes_eq (x ∷ xs) (z ∷ ys)) e ∙ f) refl

  -- no byte is left
  pub bytes_end : length a ≤ i → length b ≤ i → true ≡ all
  bytes_end h k = sym ((bytes_eq-Decides (drop i a) (drop i b)).1 (drop_all i a h ∙ sym (drop_all i b k))) ∙ so_far
