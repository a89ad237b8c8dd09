-- The addresses that a list of words names.
use Rattle.std.proofs.Common.{◌≡◌, ℕ, zero, suc, ◌+◌, ◌-◌, ◌*◌, ◌/◌, ◌<◌, ◌≤◌, inl, inr, List, [], ◌∷◌, ◌++◌, length, map, take, get_or, slice_get, Some, None, refl, sym, ap, ◌∙◌, subst, arith}
use Rattle.std.proofs.lemmas.List.{take_more, map-append, length-map, length-take-le}
use Rattle.tcd_base.proofs.OptionLaws.{some_same}
use Rattle.value_domain.specs.Sets.{Among, IsAscending, sorted_set_insert, sorted_set_of}
use Rattle.value_domain.proofs.SetLaws.{put-eq, put-gt, put_has, length_put, distinct_same, among_distinct}
use Rattle.value_domain.proofs.ExtentLaws.{among_append, append_left, append_right}

-- ---- a word at the end of an ascending list
last-more : (y z : ℕ) (zs : List ℕ) → slice_get (y ∷ z ∷ zs) (length (y ∷ z ∷ zs) - 1) ≡ slice_get (z ∷ zs) (length (z ∷ zs) - 1)
last-more y z zs =
    let e : length (y ∷ z ∷ zs) - 1 ≡ suc (length (z ∷ zs) - 1) = omega arith in
    ap (λ (n : ℕ). slice_get (y ∷ z ∷ zs) n) e

-- adding the last word again
pub put-again : (x : ℕ) (ys : List ℕ) → IsAscending ys → slice_get ys (length ys - 1) ≡ Some x → sorted_set_insert x ys ≡ ys
put-again x [] r e = absurd (let f : None ≡ Some x = e in cc)
put-again x (y ∷ []) r e = put-eq x y [] (sym (some_same y x e))
put-again x (y ∷ z ∷ zs) r e =
    let rest : sorted_set_insert x (z ∷ zs) ≡ z ∷ zs = put-again x (z ∷ zs) r.1 (sym (last-more y z zs) ∙ e) in
    let above : y < x = r.0 x (subst (λ (l : List ℕ). Among x l) rest (put_has x (z ∷ zs))) in
    put-gt x y (z ∷ zs) above ∙ ap (λ (l : List ℕ). y ∷ l) rest

-- adding a word that isn't below the others, and isn't the last one
pub put-behind : (x : ℕ) (ys : List ℕ) → IsAscending ys → ((y : ℕ) → Among y ys → y ≤ x) → (slice_get ys (length ys - 1) ≡ Some x → ⊥) → sorted_set_insert x ys ≡ ys ++ x ∷ []
unfolding sorted_set_insert
put-behind x [] r greatest other = refl
put-behind x (y ∷ []) r greatest other =
    let most : y ≤ x = greatest y (inl refl) in
    let apart : y ≡ x → ⊥ = λ e. other (ap (λ (n : ℕ). Some n) e) in
    put-gt x y [] (omega arith)
put-behind x (y ∷ z ∷ zs) r greatest other =
    let first : y < z = r.0 z (inl refl) in
    let most : z ≤ x = greatest z (inr (inl refl)) in
    let rest : sorted_set_insert x (z ∷ zs) ≡ (z ∷ zs) ++ x ∷ [] = put-behind x (z ∷ zs) r.1 (λ w i. greatest w (inr i)) (λ e. other (last-more y z zs ∙ e)) in
    put-gt x y (z ∷ zs) (omega arith) ∙ ap (λ (l : List ℕ). y ∷ l) rest

-- ---- one word more
pub distinct-next : (x : ℕ) (xs : List ℕ) → sorted_set_of (xs ++ x ∷ []) ≡ sorted_set_insert x (sorted_set_of xs)
unfolding sorted_set_of
distinct-next x xs =
    distinct_same (xs ++ x ∷ []) (x ∷ xs)
    (λ z i. elim (among_append z xs (x ∷ []) i) [ inl j ↦ inr j | inr j ↦ elim j [ inl e ↦ inl e | inr n ↦ absurd n ] ])
    (λ z i. elim i [ inl e ↦ append_right z xs (x ∷ []) (inl e) | inr j ↦ append_left z xs (x ∷ []) j ])

length_distinct : (xs : List ℕ) → length (sorted_set_of xs) ≤ length xs
unfolding sorted_set_of
length_distinct [] = omega arith
length_distinct (x ∷ xs) = let o : length (sorted_set_of xs) ≤ length xs = length_distinct xs in omega (arith, length_put x (sorted_set_of xs))

-- the word with bit 0 cleared
abbrev pub even_of : ℕ → ℕ
even_of w = w / 2 * 2

even_grows : (v w : ℕ) → v ≤ w → even_of v ≤ even_of w
even_grows v w h = omega arith

at_among : (ws : List ℕ) (i : ℕ) → i < length ws → Among (get_or ws i 0) ws
at_among [] i h = absurd (omega arith)
at_among (v ∷ vs) zero h = inl refl
at_among (v ∷ vs) (suc i) h = inr (at_among vs i (omega arith))

-- the next word of an ascending list names no address below the earlier ones
earlier_even : (ws : List ℕ) (i : ℕ) → IsAscending ws → i < length ws → (y : ℕ) → Among y (map even_of (take i ws)) → y ≤ even_of (get_or ws i 0)
earlier_even [] i r h y a = absurd (omega arith)
earlier_even (v ∷ vs) zero r h y a = absurd a
earlier_even (v ∷ vs) (suc i) r h y a =
    elim a [
      | inl e ↦
          let e2 : y ≡ even_of v = e in
          let below : v < get_or vs i 0 = r.0 (get_or vs i 0) (at_among vs i (omega arith)) in
          let grows : even_of v ≤ even_of (get_or vs i 0) = even_grows v (get_or vs i 0) (omega arith) in
          omega arith
      | inr j ↦ earlier_even vs i r.1 (omega arith) y j
    ]

-- ---- the steps of the loop
-- the addresses that the first i words name
abbrev pub evens_of : ℕ → List ℕ → List ℕ
evens_of i ws = sorted_set_of (map (λ w. w / 2 * 2) (take i ws))

pub evens_before : (ws : List ℕ) (i : ℕ) → IsAscending ws → i < length ws → (y : ℕ) → Among y (evens_of i ws) → y ≤ even_of (get_or ws i 0)
evens_before ws i r h y a = earlier_even ws i r h y (among_distinct y (map even_of (take i ws)) a)

pub length_evens : (ws : List ℕ) (i : ℕ) → i < length ws → length (evens_of i ws) ≤ i
length_evens ws i h =
    let o : length (evens_of i ws) ≤ length (map even_of (take i ws)) = length_distinct (map even_of (take i ws)) in
    let e : length (map even_of (take i ws)) ≡ i = length-map (take i ws) even_of ∙ length-take-le i ws (omega arith) in
    omega arith

pub evens-more : (ws : List ℕ) (i : ℕ) → i < length ws → evens_of (i + 1) ws ≡ sorted_set_insert (even_of (get_or ws i 0)) (evens_of i ws)
evens-more ws i h =
    ap (λ (l : List ℕ). sorted_set_of (map even_of l)) (take_more ws i 0 h)
    ∙ ap sorted_set_of (map-append even_of (take i ws) (get_or ws i 0 ∷ []))
    ∙ distinct-next (even_of (get_or ws i 0)) (map even_of (take i ws))

pub evens-none : (ws : List ℕ) → evens_of 0 ws ≡ []
unfolding sorted_set_of
evens-none ws = refl
