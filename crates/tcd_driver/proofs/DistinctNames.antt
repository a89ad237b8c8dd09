-- Names that are all different: by a map of the names before each.
use Rattle.std.proofs.Common.{◌≡◌, ◌∙◌, ◌-◌, ◌<◌, Bool, true, false, not, ◌&&◌, ◌||◌, List, [], ◌∷◌, ℕ, length, map, take, drop, get_or, refl, ap, sym, arith}
use Rattle.std.specs.List.{list_any}
use Rattle.std.specs.Str.{bytes_eq}
use Rattle.std.proofs.lemmas.List.{take_all}
use Rattle.tcd_driver.specs.DistinctNames.{are_distinct_names}

-- no name is there twice, or passes the test `seen`
abbrev pub are_new_names : (List ℕ → Bool) → List (List ℕ) → Bool
are_new_names seen names = not (list_any seen names) && are_distinct_names names

-- a test that no name passes leaves it at distinct names
pub all_new : (seen : List ℕ → Bool) (names : List (List ℕ)) → ((q : List ℕ) → seen q ≡ false) → are_distinct_names names ≡ are_new_names seen names
all_new seen names h = ap (λ (b : Bool). not b && are_distinct_names names) (sym (none names)) where
  none : (qs : List (List ℕ)) → list_any seen qs ≡ false
  none [] = refl
  none (q ∷ qs) = ap (λ (b : Bool). b || list_any seen qs) (h q) ∙ none qs

-- the test of one name more
either : (a s b t : Bool) → ((a || s) || (b || t)) ≡ ((a || b) || (s || t))
either true s b t = refl
either false true true t = refl
either false true false t = refl
either false false b t = refl

any_either : (name : List ℕ) (seen seen' : List ℕ → Bool) (names : List (List ℕ)) → ((q : List ℕ) → seen' q ≡ (bytes_eq name q || seen q)) → list_any seen' names ≡ (list_any (bytes_eq name) names || list_any seen names)
any_either name seen seen' [] h = refl
any_either name seen seen' (q ∷ qs) h =
    ap (λ (b : Bool). b || list_any seen' qs) (h q) ∙ ap (λ (b : Bool). (bytes_eq name q || seen q) || b) (any_either name seen seen' qs h)
    ∙ either (bytes_eq name q) (seen q) (list_any (bytes_eq name) qs) (list_any seen qs)

split : (a b d : Bool) → (not b && (not a && d)) ≡ (not (a || b) && d)
split true true d = refl
split true false d = refl
split false true d = refl
split false false d = refl

-- a name that is new goes into the test
pub name_seen : (name : List ℕ) (names : List (List ℕ)) (seen seen' : List ℕ → Bool) → seen name ≡ false → ((q : List ℕ) → seen' q ≡ (bytes_eq name q || seen q)) → are_new_names seen (name ∷ names) ≡ are_new_names seen' names
name_seen name names seen seen' new h =
    ap (λ (b : Bool). not (b || list_any seen names) && are_distinct_names (name ∷ names)) new
    ∙ split (list_any (bytes_eq name) names) (list_any seen names) (are_distinct_names names)
    ∙ ap (λ (b : Bool). not b && are_distinct_names names) (sym (any_either name seen seen' names h))

-- a name that isn't new
pub name_again : (name : List ℕ) (names : List (List ℕ)) (seen : List ℕ → Bool) → seen name ≡ true → are_new_names seen (name ∷ names) ≡ false
name_again name names seen h = ap (λ (b : Bool). not (b || list_any seen names) && are_distinct_names (name ∷ names)) h

-- the names that are left: one, and those after it
pub names_left : {S : Type 0} (bytes : S → List ℕ) (rest : List S) (x : S) (name : List ℕ) → 0 < length rest → x ≡ get_or rest 0 x → name ≡ bytes x → map bytes rest ≡ name ∷ map bytes (take (length rest - 1) (drop 1 rest))
names_left {S} bytes [] x name h is e = absurd (omega arith)
names_left {S} bytes (w ∷ ws) x name h is e = ap (λ (n : List ℕ). n ∷ map bytes ws) (sym (e ∙ ap bytes is)) ∙ ap (λ (l : List S). name ∷ map bytes l) (sym (take_all (length (w ∷ ws) - 1) ws (omega arith)))
