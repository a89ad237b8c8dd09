-- The points of a table are those of its map's entries, each once.
use Rattle.std.proofs.Common.{◌≡◌, ℕ, zero, suc, ◌^◌, ◌<◌, ◌≤◌, true, false, List, [], ◌∷◌, length, map, get_or, refl, sym, ap, ◌∙◌, subst, arith, Option, Some, None, IsSome, Contains, slice_get}
use Rattle.std.specs.List.{list_any}
use Rattle.std.specs.List.Sorted.{IsNonDecreasingBy}
use Rattle.std.specs.Cmp.{IsEquivalence, both_ways}
use Rattle.std.specs.Option.{option_map}
use Rattle.std.proofs.lemmas.List.{get_or-map, length-map}
use Rattle.std.proofs.lemmas.Option.{get_or_from_slice_get, slice_get-map}
use Rattle.std.proofs.lemmas.List.Elements.{Contains-get_or}
use Rattle.std.proofs.lemmas.List.Kept.{AllPairs-filter}
use Rattle.std.proofs.lemmas.Map.Keys.{IsDistinct-from_apart, apart_from_distinct}
use Rattle.std.proofs.lemmas.Map.Made.{length-le_from_is_member}
use Rattle.std.proofs.lemmas.Map.Views.{Contains-from_any, Contains-keys_from_lookup, IsSome-lookup_from_Contains, list_any-from_Contains}
use Rattle.indexmap.specs.IndexMap.{IndexMap, IsUnique, get, keys}
use Rattle.depth_cert.specs.declared.keys.Key.{Key}
use Rattle.depth_cert.specs.Known.{Known}
use Rattle.cfg_recover.specs.Assignments.{Place, point, exit, is_same_place}
use Rattle.cfg_recover.proofs.Members.{contains_map}
use Rattle.frame_places.specs.PointEntries.{ArePointEntries, place_of_entry, places_of_entries, points_in}
use Rattle.frame_places.specs.Spots.{is_point, spot_eq, spot_order_number, nowhere}
use Rattle.frame_places.specs.Marks.{value_of_place}
use Rattle.frame_places.specs.declared.ordering.PointEntry.{PointEntry}
use Rattle.frame_places.specs.declared.places.Marked.{Marked}
use Rattle.frame_places.specs.declared.places.Spot.{Spot}
use Rattle.frame_places.specs.declared.places.Spot.TheVariants.{Point, Exit}
use Rattle.frame_places.proofs.SpotLemmas.{spot_refl, equal_spots_are_same}
use Rattle.depth_maker.specs.AssignmentCounts.{ListsPointsAndFrames, ListsTablePlaces}
use Rattle.depth_maker.specs.SpotsAsPlaces.{place_of_spot, spot_of}
use Rattle.depth_maker.proofs.CountedLemmas.{few_spots}
use Rattle.depth_maker.proofs.DutyGrowth.{contained_map}
use Rattle.depth_maker.proofs.FindLemmas.{filter_has, has_filter}
use Rattle.depth_maker.proofs.SpotLemmas.{agrees, forth}

-- ---- lists
-- a counted point is in the list
pub placed : (ps : List Spot) (k : Key) (p : ℕ) → Contains (map place_of_spot ps) (point k p) → Contains ps (Point k p)
placed [] k p c = absurd (omega (arith, c.1))
placed (x ∷ xs) k p c = at (λ h. placed xs k p h) c.0 c.1 c.2 where
  spot : (y : Spot) → place_of_spot y ≡ point k p → y ≡ Point k p
  spot (Point j q) e = let key : j ≡ k = cc in let addr : q ≡ p = cc in λ i. Point (key i) (addr i)
  spot (Exit j) e = absurd (let no : exit j ≡ point k p = e in cc)

  at : (Contains (map place_of_spot xs) (point k p) → Contains xs (Point k p)) → (i : ℕ) → i < length (map place_of_spot (x ∷ xs)) → get_or (map place_of_spot (x ∷ xs)) i (point k p) ≡ point k p → Contains (x ∷ xs) (Point k p)
  at more zero lt e = (0, omega arith, spot x e)
  at more (suc i) lt e = let r = more (i, omega arith, e) in (suc r.0, omega (arith, r.1), r.2)

-- ---- entries
turned : (x y : Spot) → spot_eq x y ≡ true → spot_eq y x ≡ true
turned x y e = subst (λ (k : Spot). spot_eq k x ≡ true) (equal_spots_are_same x y e) (spot_refl x)

spot_equiv : IsEquivalence spot_eq
spot_equiv = record {
  refl = spot_refl;
  symm = λ x y. both_ways (spot_eq x y) (spot_eq y x) (turned x y) (turned y x);
  congr = λ x y z e. ap (λ (k : Spot). spot_eq k z) (equal_spots_are_same x y e);
}

-- known places have entries, and places with entries are known
some_mapped : {V : Type 0} (o : Option (Marked V)) → IsSome (option_map (λ (m : Marked V). m.value) o) → IsSome o
some_mapped None h = h
some_mapped (Some m) h = refl

mapped_some : {V : Type 0} (o : Option (Marked V)) → IsSome o → IsSome (option_map (λ (m : Marked V). m.value) o)
mapped_some None h = h
mapped_some (Some m) h = refl

pub has_entry : {V S : Type 0} (m : IndexMap Spot (Marked V) S) (q : Spot) → IsSome (value_of_place m q) → Contains (keys m) q
has_entry m q h = Contains-keys_from_lookup equal_spots_are_same q m.entries (some_mapped (get spot_eq m q) h)

pub entry_known : {V S : Type 0} (m : IndexMap Spot (Marked V) S) (q : Spot) → Contains (keys m) q → IsSome (value_of_place m q)
entry_known m q c = mapped_some (get spot_eq m q) (IsSome-lookup_from_Contains spot_equiv q m.entries c)

-- the place of an entry that was looked up
pub entry_place : {X S : Type 0} (m : IndexMap Spot X S) (x : PointEntry) (q : Spot) (v : X) → Some (q, v) ≡ slice_get m.entries x.entry → place_of_entry m x ≡ q
entry_place {X} m x q v at = get_or_from_slice_get (keys m) x.entry q nowhere (slice_get-map (λ (e : Spot × X). e.0) m.entries x.entry ∙ ap (option_map (λ (e : Spot × X). e.0)) (sym at))

-- the order of entries is that of their places
pub rising_spots : {X S : Type 0} (m : IndexMap Spot X S) (xs : List PointEntry) → ArePointEntries m xs → IsNonDecreasingBy (λ (x : PointEntry). x.order) xs → IsNonDecreasingBy spot_order_number (places_of_entries m xs)
rising_spots m xs are rising i j d le lt =
    let x0 : PointEntry = record { order = 0; entry = 0 } in
    let short : j < length xs = omega (arith, lt, length-map xs (place_of_entry m)) in
    let up = rising i j x0 le short in
    let one : get_or (places_of_entries m xs) i d ≡ place_of_entry m (get_or xs i x0) = get_or-map (place_of_entry m) xs i x0 d (omega (arith, le, short)) in
    let two : get_or (places_of_entries m xs) j d ≡ place_of_entry m (get_or xs j x0) = get_or-map (place_of_entry m) xs j x0 d short in
    let first : spot_order_number (get_or (places_of_entries m xs) i d) ≡ (get_or xs i x0).order = ap spot_order_number one ∙ sym (are.order (get_or xs i x0) (Contains-get_or xs i x0 (omega (arith, le, short)))) in
    let second : spot_order_number (get_or (places_of_entries m xs) j d) ≡ (get_or xs j x0).order = ap spot_order_number two ∙ sym (are.order (get_or xs j x0) (Contains-get_or xs j x0 short)) in
    subst (λ (n : ℕ). n ≤ spot_order_number (get_or (places_of_entries m xs) j d)) (sym first) (subst (λ (n : ℕ). (get_or xs i x0).order ≤ n) (sym second) up)

-- a point has its own place
point_kind : (q : Spot) → is_point q ≡ true → (k : Key) × (p : ℕ) × (q ≡ Point k p)
point_kind (Point k p) e = (k, p, refl)
point_kind (Exit k) e = cc

module _ {S : Type 0} (m : IndexMap Spot (Marked Known) S) (ps : List Spot) (ks : List Key) (unique : IsUnique spot_eq m) (c : ListsTablePlaces m ps ks) where
  -- each point once
  apart_spots : (i j : ℕ) (d : Spot) → i < j → j < length (points_in m) → spot_eq (get_or (points_in m) i d) (get_or (points_in m) j d) ≡ false
  apart_spots i j d lt le = AllPairs-filter (λ x y. spot_eq x y ≡ false) is_point (keys m) (λ i j d lt le. apart_from_distinct spot_eq (keys m) i j d unique lt le) i j d lt le

  apart : (i j : ℕ) (d : Place) → i < j → j < length (map place_of_spot (points_in m)) → is_same_place (get_or (map place_of_spot (points_in m)) i d) (get_or (map place_of_spot (points_in m)) j d) ≡ false
  apart i j d lt le =
      let inside : j < length (points_in m) = omega (arith, le, length-map (points_in m) place_of_spot) in
      let two = apart_spots i j nowhere lt inside in
      let x = get_or (points_in m) i nowhere in
      let y = get_or (points_in m) j nowhere in
      let one : get_or (map place_of_spot (points_in m)) i d ≡ place_of_spot x = get_or-map place_of_spot (points_in m) i nowhere d (omega (arith, lt, inside)) in
      let other : get_or (map place_of_spot (points_in m)) j d ≡ place_of_spot y = get_or-map place_of_spot (points_in m) j nowhere d inside in
      let turned : spot_eq (spot_of (place_of_spot y)) (spot_of (place_of_spot x)) ≡ spot_eq y x = λ t. spot_eq (forth y t) (forth x t) in
      (λ t. is_same_place (one t) (other t)) ∙ sym (agrees (place_of_spot x) (place_of_spot y)) ∙ turned ∙ spot_equiv.symm y x ∙ two

  pub entries_counted : ListsPointsAndFrames (λ q. value_of_place m (spot_of q)) (map place_of_spot (points_in m)) ks
  entries_counted = record {
    points = λ k p h. contains_map place_of_spot (points_in m) (Point k p) (filter_has is_point (keys m) (Point k p) (has_entry m (Point k p) h) refl);
    known = λ y h.
        let q = contained_map place_of_spot (points_in m) y h in
        let f = has_filter is_point (keys m) q.0 q.1 in
        let kind = point_kind q.0 f.1 in
        let at : place_of_spot q.0 ≡ point kind.0 kind.1 = ap place_of_spot kind.2 in
        (subst (λ (z : Place). IsSome (value_of_place m (spot_of z))) (sym at ∙ q.2) (subst (λ (z : Spot). IsSome (value_of_place m z)) kind.2 (entry_known m q.0 f.0)), (kind.0, kind.1, sym q.2 ∙ at));
    once = IsDistinct-from_apart is_same_place (map place_of_spot (points_in m)) apart;
    frames = (c.each).frames;
    entered = (c.each).entered;
    once_each = (c.each).once_each;
  }

  among : (q : Spot) → Contains (points_in m) q → list_any (spot_eq q) ps ≡ true
  among q h =
      let f = has_filter is_point (keys m) q h in
      let kind = point_kind q f.1 in
      let there : Contains ps (Point kind.0 kind.1) = placed ps kind.0 kind.1 ((c.each).points kind.0 kind.1 (subst (λ (z : Spot). IsSome (value_of_place m z)) kind.2 (entry_known m q f.0))) in
      list_any-from_Contains spot_equiv q ps (subst (Contains ps) (sym kind.2) there)

  pub entries_few : length (points_in m) ≤ 2 ^ 16
  entries_few =
      let few = few_spots ps ks c.few in
      let le = length-le_from_is_member spot_equiv (points_in m) ps (IsDistinct-from_apart spot_eq (points_in m) apart_spots) (λ q h. among q (Contains-from_any equal_spots_are_same q (points_in m) h)) in
      omega (arith, le, few.0)
