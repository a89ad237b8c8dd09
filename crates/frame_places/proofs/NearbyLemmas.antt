-- Places by their numbers.
use Rattle.std.proofs.Common.{◌≡◌, ◌+◌, ℕ, zero, suc, Bool, true, false, not, List, [], ◌∷◌, ◌++◌, get_or, Option, Some, None, IsSome, refl, sym, ap, subst, ◌∙◌, arith}
use Rattle.std.specs.Prelude.{if◌then◌else◌, slice_get, length, is_some}
use Rattle.std.specs.List.{position_or_len}
use Rattle.std.specs.Cmp.{IsEquivalence, both_ways}
use Rattle.std.specs.Option.{option_map}
use Rattle.std.specs.Map.{keys_of, lookup}
use Rattle.std.proofs.lemmas.List.{length-map, map-append}
use Rattle.std.proofs.lemmas.List.Quantifiers.{position-Some}
use Rattle.std.proofs.lemmas.Map.Entries.{hash_map_get_place}
use Rattle.std.proofs.lemmas.Option.{same_Some, slice_get-get_or, slice_get-map}
use Rattle.indexmap.specs.IndexMap.{IndexMap, IsUnique, get, index_of, insert_entry, insert_index, keys, values, with_value_at}
use Rattle.indexmap.proofs.CallerLemmas.{insert_entry-new, keys-with_value_at, updates-with_value_at}
use Rattle.frame_places.specs.declared.places.Spot.{Spot}
use Rattle.frame_places.specs.declared.places.Mark.{Mark}
use Rattle.frame_places.specs.declared.places.Mark.TheVariants.{Queued}
use Rattle.frame_places.specs.Spots.{spot_eq}
use Rattle.frame_places.specs.Marks.{is_queued}
use Rattle.frame_places.specs.Numbers.{PlaceHasNumber}
use Rattle.frame_places.proofs.SpotLemmas.{spot_refl, equal_spots_are_same}

turned : (x y : Spot) → spot_eq x y ≡ true → spot_eq y x ≡ true
turned x y e = subst (λ (k : Spot). spot_eq k x ≡ true) (equal_spots_are_same x y e) (spot_refl x)

spot_equiv : IsEquivalence spot_eq
spot_equiv = record {
  refl = spot_refl;
  symm = λ x y. both_ways (spot_eq x y) (spot_eq y x) (turned x y) (turned y x);
  congr = λ x y z e. ap (λ (k : Spot). spot_eq k z) (equal_spots_are_same x y e);
}

module _ {X S : Type 0} (m : IndexMap Spot X S) (number : ℕ) (x : Spot) where
  -- an entry of the map, and the place with its number
  pub there : (v : X) → slice_get m.entries number ≡ Some (x, v) → PlaceHasNumber m number x
  there v e = slice_get-map (λ (p : Spot × X). p.0) m.entries number ∙ ap (option_map (λ (p : Spot × X). p.0)) e

  entry_of : (o : Option (Spot × X)) → slice_get m.entries number ≡ o → PlaceHasNumber m number x → (v : X) × (slice_get m.entries number ≡ Some (x, v))
  entry_of None e h = absurd (let no : None ≡ Some x = sym (slice_get-map (λ (p : Spot × X). p.0) m.entries number ∙ ap (option_map (λ (p : Spot × X). p.0)) e) ∙ h in cc)
  entry_of (Some p) e h =
      let same : p.0 ≡ x = same_Some p.0 x (sym (slice_get-map (λ (p : Spot × X). p.0) m.entries number ∙ ap (option_map (λ (p : Spot × X). p.0)) e) ∙ h) in
      (p.1, e ∙ ap (λ (k : Spot). Some (k, p.1)) same)

  pub entry_at : PlaceHasNumber m number x → (v : X) × (slice_get m.entries number ≡ Some (x, v))
  entry_at h = entry_of (slice_get m.entries number) refl h

  -- no place has a number past the end
  pub nowhere : slice_get m.entries number ≡ None → PlaceHasNumber m number x → ⊥
  nowhere none h = let e = entry_at h in (let no : false ≡ true = ap (λ (o : Option (Spot × X)). is_some o) (sym none ∙ e.1) in cc)

  -- the place of an entry
  pub one_there : (k : Spot) (v : X) → slice_get m.entries number ≡ Some (k, v) → PlaceHasNumber m number x → k ≡ x
  one_there k v e h = same_Some k x (sym (slice_get-map (λ (p : Spot × X). p.0) m.entries number ∙ ap (option_map (λ (p : Spot × X). p.0)) e) ∙ h)

  -- the value there is the value of x
  pub had_at : (k : Spot) (v : X) → slice_get m.entries number ≡ Some (k, v) → get spot_eq m k ≡ Some v → PlaceHasNumber m number x → get spot_eq m x ≡ Some v
  had_at k v e had h = subst (λ (z : Spot). get spot_eq m z ≡ Some v) (one_there k v e h) had

  -- x is at the number that is found for it
  pub index_there : index_of spot_eq m x ≡ Some number → PlaceHasNumber m number x
  index_there e =
      let h = position-Some (spot_eq x) (keys m) number x e in
      slice_get-get_or (keys m) number x h.0 ∙ ap (λ (k : Spot). Some k) (sym (equal_spots_are_same x (get_or (keys m) number x) h.1))

  -- a value that is written there is the value of x, and the others stay
  pub written_there : (w : X) → IsUnique spot_eq m → PlaceHasNumber m number x → (q : Spot) → get spot_eq (with_value_at m number w) q ≡ (if spot_eq x q then Some w else get spot_eq m q)
  written_there w unique h q = let e = entry_at h in (updates-with_value_at m number w spot_equiv unique x e.0 e.1).0 q

  -- a value at the number is the value of x
  pub value_had : IsUnique spot_eq m → (v : X) → Some v ≡ slice_get (values m) number → PlaceHasNumber m number x → get spot_eq m x ≡ Some v
  value_had unique v at h =
      let e = entry_at h in
      hash_map_get_place spot_equiv m number x e.0 unique e.1 ∙ sym (slice_get-map (λ (p : Spot × X). p.1) m.entries number ∙ ap (option_map (λ (p : Spot × X). p.1)) e.1) ∙ sym at

  pub no_value : None ≡ slice_get (values m) number → PlaceHasNumber m number x → ⊥
  no_value none h =
      let e = entry_at h in
      let no : None ≡ Some e.0 = none ∙ slice_get-map (λ (p : Spot × X). p.1) m.entries number ∙ ap (option_map (λ (p : Spot × X). p.1)) e.1 in cc

-- a known place is found
first_there : {X : Type 0} (y : Spot) (es : List (Spot × X)) → IsSome (lookup (spot_eq y) es) → slice_get (keys_of es) (position_or_len (spot_eq y) (keys_of es)) ≡ Some y
first_there y [] h = cc
first_there {X} y (e ∷ es) h = by (spot_eq y e.0) refl (λ i. first_there y es i) where
  rest : ℕ
  rest = position_or_len (spot_eq y) (keys_of es)

  by : (t : Bool) → spot_eq y e.0 ≡ t → (IsSome (lookup (spot_eq y) es) → slice_get (keys_of es) rest ≡ Some y) → slice_get (keys_of (e ∷ es)) (position_or_len (spot_eq y) (keys_of (e ∷ es))) ≡ Some y
  by true t next = ap (λ (b : Bool). slice_get (e.0 ∷ keys_of es) (if not b then 1 + rest else 0)) t ∙ ap (λ (k : Spot). Some k) (sym (equal_spots_are_same y e.0 t))
  by false t next =
      let one : 1 + rest ≡ suc rest = omega arith in
      ap (λ (b : Bool). slice_get (e.0 ∷ keys_of es) (if not b then 1 + rest else 0)) t ∙ ap (λ (n : ℕ). slice_get (e.0 ∷ keys_of es) n) one
      ∙ next (subst (λ (b : Bool). IsSome (if b then Some e.1 else lookup (spot_eq y) es)) t h)

pub found_there : {X S : Type 0} (m : IndexMap Spot X S) (y : Spot) (number : ℕ) → number ≡ insert_index spot_eq m y → IsSome (get spot_eq m y) → PlaceHasNumber m number y
found_there m y number is h = subst (λ (n : ℕ). PlaceHasNumber m n y) (sym is) (first_there y m.entries h)

-- ---- one more place
slice_left : {X : Type 0} (xs ys : List X) (n : ℕ) (x : X) → slice_get xs n ≡ Some x → slice_get (xs ++ ys) n ≡ Some x
slice_left [] ys n x e = (let no : None ≡ Some x = e in cc)
slice_left (y ∷ xs) ys zero x e = e
slice_left (y ∷ xs) ys (suc n) x e = slice_left xs ys n x e

slice_end : {X : Type 0} (xs : List X) (y : X) → slice_get (xs ++ y ∷ []) (length xs) ≡ Some y
slice_end [] y = refl
slice_end (x ∷ xs) y = slice_end xs y

module _ {X S : Type 0} (m new : IndexMap Spot X S) (y : Spot) (w : X) (none : get spot_eq m y ≡ None) (entries : new.entries ≡ insert_entry spot_eq m.entries y w) where
  keys_more : keys new ≡ keys m ++ y ∷ []
  keys_more = ap (λ (es : List (Spot × X)). keys_of es) (entries ∙ insert_entry-new spot_eq m y w none) ∙ map-append (λ (p : Spot × X). p.0) m.entries ((y, w) ∷ [])

  -- it is the last, and the others stay
  pub added_last : PlaceHasNumber new (length m.entries) y
  added_last =
      subst (λ (n : ℕ). slice_get (keys new) n ≡ Some y) (length-map m.entries (λ (p : Spot × X). p.0))
      (ap (λ (ks : List Spot). slice_get ks (length (keys m))) keys_more ∙ slice_end (keys m) y)

  pub added_numbers : (n : ℕ) (q : Spot) → PlaceHasNumber m n q → PlaceHasNumber new n q
  added_numbers n q h = ap (λ (ks : List Spot). slice_get ks n) keys_more ∙ slice_left (keys m) (y ∷ []) n q h

-- places keep their numbers
pub written_numbers : {X S : Type 0} (m : IndexMap Spot X S) (number : ℕ) (w : X) → (n : ℕ) (q : Spot) → PlaceHasNumber m n q → PlaceHasNumber (with_value_at m number w) n q
written_numbers m number w n q h = ap (λ (ks : List Spot). slice_get ks n) (keys-with_value_at m number w) ∙ h

-- a place that is marked as queued
pub queued_mark : (o : Option Mark) → is_queued o ≡ true → o ≡ Some Queued
queued_mark (Some Queued) e = refl
queued_mark _ e = cc
