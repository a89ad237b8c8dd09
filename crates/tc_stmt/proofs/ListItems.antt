-- Items of lists that are joined.
use Rattle.std.proofs.Common.{◌≡◌, ◌<◌, ◌≤◌, ◌+◌, ◌⊎◌, inl, inr, ℕ, zero, suc, Bool, true, false, cond, List, [], ◌∷◌, ◌++◌, length, take, drop, map, Some, refl, sym, ap, subst, ◌∙◌, arith, append_assoc}
use Rattle.std.specs.Prelude.{slice_get, slice_set, filter, find}
use Rattle.std.specs.List.{flat_map}
use Rattle.std.proofs.lemmas.Option.{slice_get_within}

-- ---- an item with those before and after it
pub parted_at : {A : Type 0} (xs : List A) (i : ℕ) (x : A) → slice_get xs i ≡ Some x → xs ≡ take i xs ++ x ∷ drop (suc i) xs
parted_at [] i x e = cc
parted_at {A} (y ∷ ys) zero x e = let same : y ≡ x = cc in ap (λ (z : A). z ∷ ys) same
parted_at {A} (y ∷ ys) (suc i) x e = ap (λ (zs : List A). y ∷ zs) (parted_at ys i x e)

pub get_front : {A : Type 0} (xs ys : List A) (i : ℕ) (x : A) → slice_get xs i ≡ Some x → slice_get (xs ++ ys) i ≡ Some x
get_front [] ys i x e = cc
get_front (y ∷ xs) ys zero x e = e
get_front (y ∷ xs) ys (suc i) x e = get_front xs ys i x e

pub get_behind : {A : Type 0} (xs ys : List A) (n i : ℕ) → n ≡ length xs + i → slice_get (xs ++ ys) n ≡ slice_get ys i
get_behind [] ys n i e = let same : n ≡ i = omega arith in ap (slice_get ys) same
get_behind (x ∷ xs) ys zero i e = absurd (omega arith)
get_behind (x ∷ xs) ys (suc n) i e = get_behind xs ys n i (omega arith)

pub get_short : {A : Type 0} (xs ys : List A) (i : ℕ) → i < length xs → slice_get (xs ++ ys) i ≡ slice_get xs i
get_short [] ys i h = absurd (omega arith)
get_short (x ∷ xs) ys zero h = refl
get_short (x ∷ xs) ys (suc i) h = get_short xs ys i (omega arith)

pub take_front : {A : Type 0} (xs ys : List A) (i : ℕ) → i ≤ length xs → take i (xs ++ ys) ≡ take i xs
take_front [] ys zero h = refl
take_front [] ys (suc i) h = absurd (omega arith)
take_front (x ∷ xs) ys zero h = refl
take_front {A} (x ∷ xs) ys (suc i) h = ap (λ (zs : List A). x ∷ zs) (take_front xs ys i (omega arith))

pub take_behind : {A : Type 0} (xs ys : List A) (n i : ℕ) → n ≡ length xs + i → take n (xs ++ ys) ≡ xs ++ take i ys
take_behind [] ys n i e = let same : n ≡ i = omega arith in ap (λ k. take k ys) same
take_behind (x ∷ xs) ys zero i e = absurd (omega arith)
take_behind {A} (x ∷ xs) ys (suc n) i e = ap (λ (zs : List A). x ∷ zs) (take_behind xs ys n i (omega arith))

pub drop_behind : {A : Type 0} (xs ys : List A) (n i : ℕ) → n ≡ length xs + i → drop n (xs ++ ys) ≡ drop i ys
drop_behind [] ys n i e = let same : n ≡ i = omega arith in ap (λ k. drop k ys) same
drop_behind (x ∷ xs) ys zero i e = absurd (omega arith)
drop_behind (x ∷ xs) ys (suc n) i e = drop_behind xs ys n i (omega arith)

-- an item of two lists is in the first or in the second
pub record InRest (A : Type 0) (xs ys : List A) (i : ℕ) (x : A) : Type 0 where
  pub at : ℕ
  pub is : slice_get ys at ≡ Some x
  pub place : i ≡ length xs + at

pub in_front_or_rest : {A : Type 0} (xs ys : List A) (i : ℕ) (x : A) → slice_get (xs ++ ys) i ≡ Some x → (slice_get xs i ≡ Some x) ⊎ InRest A xs ys i x
in_front_or_rest [] ys i x e = inr (record { at = i; is = e; place = omega arith })
in_front_or_rest (y ∷ xs) ys zero x e = inl e
in_front_or_rest {A} (y ∷ xs) ys (suc i) x e = further (in_front_or_rest xs ys i x e)
  where
    further : (slice_get xs i ≡ Some x) ⊎ InRest A xs ys i x → (slice_get xs i ≡ Some x) ⊎ InRest A (y ∷ xs) ys (suc i) x
    further (inl h) = inl h
    further (inr r) = inr (record { at = r.at; is = r.is; place = let p = r.place in omega arith })

-- ---- the item between two lists
pub seam_get : {A : Type 0} (xs ys : List A) (x : A) → slice_get (xs ++ x ∷ ys) (length xs) ≡ Some x
seam_get [] ys x = refl
seam_get (y ∷ xs) ys x = seam_get xs ys x

pub seam_set : {A : Type 0} (xs ys : List A) (x y : A) → slice_set (xs ++ x ∷ ys) (length xs) y ≡ xs ++ y ∷ ys
seam_set [] ys x y = refl
seam_set {A} (z ∷ xs) ys x y = ap (λ (zs : List A). z ∷ zs) (seam_set xs ys x y)

-- ---- lists of lists
-- an item of all the lists: the list that has it, its place there, and the items before it
pub record FlatAt (X A : Type 0) (f : X → List A) (xs : List X) (i : ℕ) (y : A) : Type 0 where
  pub outer : ℕ
  pub item : X
  pub is_item : slice_get xs outer ≡ Some item
  pub inner : ℕ
  pub is_inner : slice_get (f item) inner ≡ Some y
  pub front : take i (flat_map f xs) ≡ flat_map f (take outer xs) ++ take inner (f item)

pub flat_at : {X A : Type 0} (f : X → List A) (xs : List X) (i : ℕ) (y : A) → slice_get (flat_map f xs) i ≡ Some y → FlatAt X A f xs i y
flat_at f [] i y e = cc
flat_at {X} {A} f (x ∷ xs) i y e = by (λ k g. flat_at f xs k y g) (in_front_or_rest (f x) (flat_map f xs) i y e)
  where
    by : ((k : ℕ) → slice_get (flat_map f xs) k ≡ Some y → FlatAt X A f xs k y) → (slice_get (f x) i ≡ Some y) ⊎ InRest A (f x) (flat_map f xs) i y → FlatAt X A f (x ∷ xs) i y
    by rec (inl h) =
        let within = slice_get_within (f x) i y h in
        record { outer = 0; item = x; is_item = refl; inner = i; is_inner = h; front = take_front (f x) (flat_map f xs) i (omega arith) }
    by rec (inr r) =
        let more = rec r.at r.is in
        record {
          outer = suc more.outer;
          item = more.item;
          is_item = more.is_item;
          inner = more.inner;
          is_inner = more.is_inner;
          front = take_behind (f x) (flat_map f xs) i r.at r.place ∙ ap (λ (zs : List A). f x ++ zs) more.front ∙ sym (append_assoc (f x) (flat_map f (take more.outer xs)) (take more.inner (f more.item)));
        }

-- the lists before and after an item of one of the lists
pub flat_parted : {X A : Type 0} (f : X → List A) (xs : List X) (i : ℕ) (x : X) (j : ℕ) (y : A) → slice_get xs i ≡ Some x → slice_get (f x) j ≡ Some y →
    flat_map f xs ≡ (flat_map f (take i xs) ++ take j (f x)) ++ y ∷ (drop (suc j) (f x) ++ flat_map f (drop (suc i) xs))
flat_parted f [] i x j y e h = cc
flat_parted {X} {A} f (z ∷ zs) zero x j y e h =
    let same : z ≡ x = cc in
    ap (λ (u : X). f u ++ flat_map f zs) same
    ∙ ap (λ (l : List A). l ++ flat_map f zs) (parted_at (f x) j y h)
    ∙ append_assoc (take j (f x)) (y ∷ drop (suc j) (f x)) (flat_map f zs)
flat_parted {X} {A} f (z ∷ zs) (suc i) x j y e h =
    ap (λ (l : List A). f z ++ l) (flat_parted f zs i x j y e h)
    ∙ sym (append_assoc (f z) (flat_map f (take i zs) ++ take j (f x)) (y ∷ (drop (suc j) (f x) ++ flat_map f (drop (suc i) zs))))
    ∙ ap (λ (l : List A). l ++ y ∷ (drop (suc j) (f x) ++ flat_map f (drop (suc i) zs))) (sym (append_assoc (f z) (flat_map f (take i zs)) (take j (f x))))

-- ---- maps
pub map_get : {A B : Type 0} (f : A → B) (xs : List A) (i : ℕ) (x : A) → slice_get xs i ≡ Some x → slice_get (map f xs) i ≡ Some (f x)
map_get f [] i x e = cc
map_get {A} {B} f (y ∷ ys) zero x e = let same : y ≡ x = cc in ap (λ (z : A). Some (f z)) same
map_get f (y ∷ ys) (suc i) x e = map_get f ys i x e

-- the item before mapping
pub record MapAt (A B : Type 0) (f : A → B) (xs : List A) (i : ℕ) (y : B) : Type 0 where
  pub item : A
  pub is_item : slice_get xs i ≡ Some item
  pub is : f item ≡ y

pub map_at : {A B : Type 0} (f : A → B) (xs : List A) (i : ℕ) (y : B) → slice_get (map f xs) i ≡ Some y → MapAt A B f xs i y
map_at f [] i y e = cc
map_at f (x ∷ xs) zero y e = record { item = x; is_item = refl; is = cc }
map_at f (x ∷ xs) (suc i) y e = let h = map_at f xs i y e in record { item = h.item; is_item = h.is_item; is = h.is }

pub map_take : {A B : Type 0} (f : A → B) (xs : List A) (i : ℕ) → map f (take i xs) ≡ take i (map f xs)
map_take f [] zero = refl
map_take f [] (suc i) = refl
map_take f (x ∷ xs) zero = refl
map_take {A} {B} f (x ∷ xs) (suc i) = ap (λ (zs : List B). f x ∷ zs) (map_take f xs i)

-- a filtered item is in the list, and passes
pub record FilterAt (A : Type 0) (p : A → Bool) (xs : List A) (y : A) : Type 0 where
  pub at : ℕ
  pub is_item : slice_get xs at ≡ Some y
  pub holds : p y ≡ true

pub filter_at : {A : Type 0} (p : A → Bool) (xs : List A) (i : ℕ) (y : A) → slice_get (filter p xs) i ≡ Some y → FilterAt A p xs y
filter_at p [] i y e = cc
filter_at {A} p (x ∷ xs) i y e = by (λ k g. filter_at p xs k y g) (p x) refl i e
  where
    further : FilterAt A p xs y → FilterAt A p (x ∷ xs) y
    further h = record { at = suc h.at; is_item = h.is_item; holds = h.holds }

    by : ((k : ℕ) → slice_get (filter p xs) k ≡ Some y → FilterAt A p xs y) → (b : Bool) → p x ≡ b → (i : ℕ) → slice_get (cond b (x ∷ filter p xs) (filter p xs)) i ≡ Some y → FilterAt A p (x ∷ xs) y
    by rec true h zero f = let same : x ≡ y = cc in record { at = 0; is_item = ap (λ (z : A). Some z) same; holds = sym (ap p same) ∙ h }
    by rec true h (suc i) f = further (rec i f)
    by rec false h i f = further (rec i f)

-- an item that passes is among the filtered ones
pub record IsIn (A : Type 0) (xs : List A) (y : A) : Type 0 where
  pub at : ℕ
  pub is : slice_get xs at ≡ Some y

pub filter_in : {A : Type 0} (p : A → Bool) (xs : List A) (i : ℕ) (y : A) → slice_get xs i ≡ Some y → p y ≡ true → IsIn A (filter p xs) y
filter_in p [] i y e h = cc
filter_in {A} p (x ∷ xs) zero y e h =
    let same : x ≡ y = cc in
    let passes : p x ≡ true = ap p same ∙ h in
    subst (λ (b : Bool). IsIn A (cond b (x ∷ filter p xs) (filter p xs)) y) (sym passes) (record { at = 0; is = e })
filter_in {A} p (x ∷ xs) (suc i) y e h = by (p x) (filter_in p xs i y e h)
  where
    by : (b : Bool) → IsIn A (filter p xs) y → IsIn A (cond b (x ∷ filter p xs) (filter p xs)) y
    by true g = record { at = suc g.at; is = g.is }
    by false g = g

-- the item that was found, and no earlier one
pub record FindAt (A : Type 0) (p : A → Bool) (xs : List A) (y : A) : Type 0 where
  pub at : ℕ
  pub is_item : slice_get xs at ≡ Some y
  pub holds : p y ≡ true

pub find_at : {A : Type 0} (p : A → Bool) (xs : List A) (y : A) → find p xs ≡ Some y → FindAt A p xs y
find_at p [] y e = cc
find_at {A} p (x ∷ xs) y e = by (λ g. find_at p xs y g) (p x) refl e
  where
    further : FindAt A p xs y → FindAt A p (x ∷ xs) y
    further h = record { at = suc h.at; is_item = h.is_item; holds = h.holds }

    by : (find p xs ≡ Some y → FindAt A p xs y) → (b : Bool) → p x ≡ b → cond b (Some x) (find p xs) ≡ Some y → FindAt A p (x ∷ xs) y
    by rec true h f = let same : x ≡ y = cc in record { at = 0; is_item = f; holds = sym (ap p same) ∙ h }
    by rec false h f = further (rec f)
