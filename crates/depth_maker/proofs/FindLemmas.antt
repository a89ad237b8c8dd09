-- Searches in lists that were mapped or filtered, and the length of filters by frames.
use Rattle.std.proofs.Common.{◌≡◌, ◌⊎◌, inl, inr, ℕ, ◌+◌, ◌<◌, ◌≤◌, Bool, true, false, cond, List, [], ◌∷◌, ◌++◌, length, map, get_or, refl, sym, ap, ◌∙◌, subst, arith, Some, None, Contains}
use Rattle.std.specs.Prelude.{filter, find, sum_by}
use Rattle.std.specs.List.{IsDistinct, AllByRecursion, list_any, flat_map}
use Rattle.std.specs.List.Sorted.{IsStrictlyIncreasing, IsNonDecreasingBy}
use Rattle.std.proofs.lemmas.Bool.{cases_Bool, cases_lt}
use Rattle.std.proofs.lemmas.List.{length-map, get_or-map}
use Rattle.std.proofs.lemmas.List.Elements.{Contains-append_right}
use Rattle.std.proofs.lemmas.List.Sums.{sum_by-cons}
use Rattle.std.proofs.lemmas.Map.Keys.{IsDistinct-head, IsDistinct-tail}
use Rattle.depth_maker.proofs.Sizes.{any_contained, contained_any}
use Rattle.depth_maker.proofs.SpotLemmas.{front_cases}

-- ---- maps
pub map_twice : {X Y Z : Type 0} (g : Y → Z) (f : X → Y) (xs : List X) → map g (map f xs) ≡ map (λ x. g (f x)) xs
map_twice g f [] = refl
map_twice {X} {Y} {Z} g f (x ∷ xs) = ap (λ (l : List Z). g (f x) ∷ l) (map_twice g f xs)

pub flat_twice : {X Y Z : Type 0} (g : Y → List Z) (f : X → Y) (xs : List X) → flat_map g (map f xs) ≡ flat_map (λ x. g (f x)) xs
flat_twice g f [] = refl
flat_twice {X} {Y} {Z} g f (x ∷ xs) = ap (λ (l : List Z). g (f x) ++ l) (flat_twice g f xs)

pub sum_twice : {X Y : Type 0} (g : Y → ℕ) (f : X → Y) (xs : List X) → sum_by g (map f xs) ≡ sum_by (λ x. g (f x)) xs
sum_twice g f [] = refl
sum_twice g f (x ∷ xs) = sum_by-cons g (f x) (map f xs) ∙ ap (λ n. g (f x) + n) (sum_twice g f xs) ∙ sym (sum_by-cons (λ x. g (f x)) x xs)

-- ---- what a list has, or not
pub has_or_not : {K : Type 0} (same : K → K → Bool) → ((x y : K) → same x y ≡ true → x ≡ y) → ((x : K) → same x x ≡ true) → (xs : List K) (x : K) → Contains xs x ⊎ (Contains xs x → ⊥)
has_or_not same tells own xs x =
    elim (cases_Bool (list_any (same x) xs)) [
      | inl e ↦ inl (any_contained same tells own xs x e)
      | inr e ↦ inr (λ c. let f : true ≡ false = sym (contained_any same tells own xs x c) ∙ e in cc)
    ]

pub tail_has : {X : Type 0} (y : X) (ys : List X) (x : X) → Contains ys x → Contains (y ∷ ys) x
tail_has y ys x c = Contains-append_right (y ∷ []) ys x c

-- an element that passes is found if only one passes
pub find_mapped : {X Y : Type 0} (test : Y → Bool) (f : X → Y) (x : X) → test (f x) ≡ true → ((z : X) → test (f z) ≡ true → f z ≡ f x) → (xs : List X) → Contains xs x → find test (map f xs) ≡ Some (f x)
find_mapped test f x passes one [] c = absurd (omega (arith, c.1))
find_mapped {X} {Y} test f x passes one (y ∷ ys) c =
    elim (cases_Bool (test (f y))) [
      | inl e ↦ ap (λ t. cond t (Some (f y)) (find test (map f ys))) e ∙ ap (λ (z : Y). Some z) (one y e)
      | inr e ↦ ap (λ t. cond t (Some (f y)) (find test (map f ys))) e ∙ find_mapped test f x passes one ys
          (elim (front_cases y ys x c) [
            | inl same ↦ absurd (let g : true ≡ false = sym passes ∙ ap (λ (z : X). test (f z)) (sym same) ∙ e in cc)
            | inr more ↦ more
          ])
    ]

pub find_unmapped : {X Y : Type 0} (test : Y → Bool) (f : X → Y) (xs : List X) → ((z : X) → Contains xs z → test (f z) ≡ false) → find test (map f xs) ≡ None
find_unmapped test f [] fails = refl
find_unmapped test f (y ∷ ys) fails =
    ap (λ t. cond t (Some (f y)) (find test (map f ys))) (fails y (0, omega arith, refl))
    ∙ find_unmapped test f ys (λ z c. fails z (tail_has y ys z c))

-- ---- filters
pub filter_has : {X : Type 0} (test : X → Bool) (xs : List X) (x : X) → Contains xs x → test x ≡ true → Contains (filter test xs) x
filter_has test [] x c passes = absurd (omega (arith, c.1))
filter_has {X} test (y ∷ ys) x c passes =
    elim (cases_Bool (test y)) [
      | inl e ↦ subst (λ t. Contains (cond t (y ∷ filter test ys) (filter test ys)) x) (sym e)
          (elim (front_cases y ys x c) [ inl same ↦ (0, omega arith, same) | inr more ↦ tail_has y (filter test ys) x (filter_has test ys x more passes) ])
      | inr e ↦ subst (λ t. Contains (cond t (y ∷ filter test ys) (filter test ys)) x) (sym e)
          (elim (front_cases y ys x c) [
            | inl same ↦ absurd (let g : true ≡ false = sym passes ∙ ap test (sym same) ∙ e in cc)
            | inr more ↦ filter_has test ys x more passes
          ])
    ]

pub has_filter : {X : Type 0} (test : X → Bool) (xs : List X) (x : X) → Contains (filter test xs) x → Contains xs x × (test x ≡ true)
has_filter test [] x c = absurd (omega (arith, c.1))
has_filter {X} test (y ∷ ys) x c =
    elim (cases_Bool (test y)) [
      | inl e ↦
          elim (front_cases y (filter test ys) x (subst (λ t. Contains (cond t (y ∷ filter test ys) (filter test ys)) x) e c)) [
            | inl same ↦ ((0, omega arith, same), ap test (sym same) ∙ e)
            | inr more ↦ (let r = has_filter test ys x more in (tail_has y ys x r.0, r.1))
          ]
      | inr e ↦ (let r = has_filter test ys x (subst (λ t. Contains (cond t (y ∷ filter test ys) (filter test ys)) x) e c) in (tail_has y ys x r.0, r.1))
    ]

-- ---- numbers that rise
pub strict : {X : Type 0} (n : X → ℕ) (xs : List X) (e : X) → IsNonDecreasingBy n xs → ((i : ℕ) → i + 1 < length xs → n (get_or xs i e) ≡ n (get_or xs (i + 1) e) → ⊥) → IsStrictlyIncreasing (map n xs)
strict n xs e up apart i lt =
    let l : i + 1 < length xs = omega (arith, lt, length-map xs n) in
    let le = up i (i + 1) e (omega arith) l in
    let one = get_or-map n xs i e 0 (omega arith) in
    let two = get_or-map n xs (i + 1) e 0 l in
    elim (cases_lt (n (get_or xs i e)) (n (get_or xs (i + 1) e))) [
      | inl below ↦ omega (arith, below, one, two)
      | inr above ↦ absurd (apart i l (omega (arith, le, above)))
    ]

-- ---- sums of filters
sum_added : {X : Type 0} (f g : X → ℕ) (xs : List X) → sum_by (λ x. f x + g x) xs ≡ sum_by f xs + sum_by g xs
sum_added f g [] = refl
sum_added f g (x ∷ xs) = omega (arith, sum_by-cons (λ x. f x + g x) x xs, sum_by-cons f x xs, sum_by-cons g x xs, sum_added f g xs)

sum_none : {X : Type 0} (f : X → ℕ) (xs : List X) → AllByRecursion (λ x. f x ≡ 0) xs → sum_by f xs ≡ 0
sum_none f [] all = refl
sum_none f (x ∷ xs) all = omega (arith, sum_by-cons f x xs, all.0, sum_none f xs all.1)

-- one if a test passes
abbrev pub one_if : Bool → ℕ
one_if true = 1
one_if false = 0

length_more : {X : Type 0} (test : X → Bool) (x : X) (xs : List X) → length (filter test (x ∷ xs)) ≡ one_if (test x) + length (filter test xs)
length_more {X} test x xs = at (test x) where
  at : (t : Bool) → length (cond t (x ∷ filter test xs) (filter test xs)) ≡ one_if t + length (filter test xs)
  at true = omega arith
  at false = omega arith

pub length_kept : {X : Type 0} (test : X → Bool) (xs : List X) → length (filter test xs) ≤ length xs
length_kept test [] = omega arith
length_kept test (x ∷ xs) = omega (arith, length_more test x xs, at (test x), length_kept test xs) where
  at : (t : Bool) → one_if t ≤ 1
  at true = omega arith
  at false = omega arith

-- if each element passes at most one of the tests, the filters keep no more than the whole list
pub sum_of_filters : {K X : Type 0} (test : K → X → Bool) (ks : List K) → ((x : X) → sum_by (λ k. one_if (test k x)) ks ≤ 1) → (xs : List X) → sum_by (λ k. length (filter (test k) xs)) ks ≤ length xs
sum_of_filters {K} {X} test ks one [] = omega (arith, sum_nothing ks) where
  sum_nothing : (ks : List K) → sum_by (λ k. length (filter (test k) [])) ks ≡ 0
  sum_nothing [] = refl
  sum_nothing (k ∷ ks) = omega (arith, sum_by-cons (λ k. length (filter (test k) [])) k ks, sum_nothing ks)
sum_of_filters {K} {X} test ks one (x ∷ xs) =
    let more : sum_by (λ k. length (filter (test k) (x ∷ xs))) ks ≡ sum_by (λ k. one_if (test k x) + length (filter (test k) xs)) ks = ap (λ (f : K → ℕ). sum_by f ks) (λ i k. length_more (test k) x xs i) in
    omega (arith, more, sum_added (λ k. one_if (test k x)) (λ k. length (filter (test k) xs)) ks, one x, sum_of_filters test ks one xs)

zeros : {K : Type 0} (p : K → Bool) (ks : List K) → AllByRecursion (λ y. p y ≡ false) ks → AllByRecursion (λ y. one_if (p y) ≡ 0) ks
zeros p [] all = tt
zeros p (k ∷ ks) all = (ap one_if all.0, zeros p ks all.1)

-- of distinct keys at most one is this
pub one_at_most : {K : Type 0} (same : K → K → Bool) → ((x y : K) → same x y ≡ true → x ≡ y) → (j : K) (ks : List K) → IsDistinct same ks → sum_by (λ k. one_if (same j k)) ks ≤ 1
one_at_most same tells j [] distinct = omega arith
one_at_most {K} same tells j (k ∷ ks) distinct =
    elim (cases_Bool (same j k)) [
      | inl e ↦
          (let rest = sum_none (λ y. one_if (same j y)) ks (zeros (same j) ks (subst (λ (z : K). AllByRecursion (λ y. same z y ≡ false) ks) (sym (tells j k e)) (IsDistinct-head same k ks distinct))) in
          let here : one_if (same j k) ≡ 1 = ap one_if e in
          omega (arith, sum_by-cons (λ y. one_if (same j y)) k ks, here, rest))
      | inr e ↦
          (let here : one_if (same j k) ≡ 0 = ap one_if e in
          omega (arith, sum_by-cons (λ y. one_if (same j y)) k ks, here, one_at_most same tells j ks (IsDistinct-tail same k ks distinct)))
    ]
