-- The points of a node, met by a walk one after another, and nodes that are looked up by index.
use Rattle.std.proofs.Common.{◌≡◌, ◌∙◌, ◌<◌, ◌+◌, ℕ, zero, suc, List, [], ◌∷◌, ◌++◌, Some, None, length, get_or, map, take, Contains, sym, ap, subst, refl, arith, append_assoc, append-nil}
use Rattle.std.specs.List.{slice_get}
use Rattle.std.proofs.lemmas.List.{take_more, map-append}
use Rattle.std.proofs.lemmas.List.Elements.{Contains-append_right}
use Rattle.std.proofs.lemmas.Option.{slice_get_within, get_or_from_slice_get, none-some}
use Rattle.depth_cert.specs.declared.points.Point.{Point}

-- the point at hand, between those before it and those after it
pub split_again : (points done left after : List Point) (p : Point) → points ≡ done ++ left → left ≡ p ∷ after → points ≡ done ++ p ∷ after
split_again points done left after p e f = e ∙ ap (λ (l : List Point). done ++ l) f

-- one step
pub split_more : (points done left after : List Point) (p : Point) → points ≡ done ++ left → left ≡ p ∷ after → points ≡ (done ++ p ∷ []) ++ after
split_more points done left after p e f = split_again points done left after p e f ∙ sym (append_assoc done (p ∷ []) after)

-- the point at hand is one of them
pub walked : (points done left after : List Point) (p : Point) → points ≡ done ++ left → left ≡ p ∷ after → Contains points p
walked points done left after p e f =
    subst (λ (l : List Point). Contains l p) (sym (split_again points done left after p e f)) (Contains-append_right done (p ∷ after) p (0, omega arith, refl))

-- none is left
pub walked_all : (points done left : List Point) → points ≡ done ++ left → left ≡ [] → points ≡ done
walked_all points done left e f = e ∙ ap (λ (l : List Point). done ++ l) f ∙ append-nil done

-- the number of the point at hand is that of those before it
pub met : {A : Type 0} (xs ys : List A) (x : A) → (length xs < length (xs ++ x ∷ ys)) × (x ≡ get_or (xs ++ x ∷ ys) (length xs) x) × (take (length xs) (xs ++ x ∷ ys) ≡ xs)
met [] ys x = (omega arith, refl, refl)
met (z ∷ xs) ys x = let m = met xs ys x in (omega (arith, m.0), m.1, ap (λ l. z ∷ l) m.2)

-- something is at each index
pub never_none : {A : Type 0} (xs : List A) (i : ℕ) → i < length xs → None ≡ slice_get xs i → ⊥
never_none [] i lt e = absurd (omega (arith, lt))
never_none (x ∷ xs) zero lt e = absurd (none-some _ e)
never_none (x ∷ xs) (suc i) lt e = never_none xs i (omega (arith, lt)) e

-- what is found at an index is one of them
pub got : {A : Type 0} (xs : List A) (i : ℕ) (x : A) → Some x ≡ slice_get xs i → (i < length xs) × (x ≡ get_or xs i x) × Contains xs x
got xs i x e =
    let within = slice_get_within xs i x (sym e) in
    let at = get_or_from_slice_get xs i x x (sym e) in
    (within, sym at, (i, within, at))

-- the first elements with one more
pub mapped_more : {A : Type 0} {B : Type 0} (f : A → B) (xs : List A) (i : ℕ) (x : A) (ys : List B) (y : B) → Some x ≡ slice_get xs i → ys ≡ map f (take i xs) → y ≡ f x → ys ++ y ∷ [] ≡ map f (take (i + 1) xs)
mapped_more f xs i x ys y e before last =
    ap (λ l. l ++ y ∷ []) before
    ∙ ap (λ z. map f (take i xs) ++ z ∷ []) (last ∙ ap f (sym (get_or_from_slice_get xs i x x (sym e))))
    ∙ sym (map-append f (take i xs) (get_or xs i x ∷ []))
    ∙ ap (map f) (sym (take_more xs i x (slice_get_within xs i x (sym e))))
