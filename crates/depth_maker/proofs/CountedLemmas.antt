-- The counts of a table: a join keeps them, or passes a limit.
use Rattle.std.proofs.Common.{◌≡◌, ◌⊎◌, inl, inr, ℕ, suc, ◌^◌, ◌≤◌, Bool, true, false, List, [], ◌∷◌, ◌++◌, length, Option, Some, None, IsSome, refl, sym, ap, ◌∙◌, subst, arith, Contains}
use Rattle.std.specs.Prelude.{if◌then◌else◌, is_some, map, ◌==◌}
use Rattle.std.specs.List.{IsDistinct}
use Rattle.std.proofs.lemmas.Bool.{cases_Bool, eqb-true, eq-eqb}
use Rattle.std.proofs.lemmas.List.{map-append}
use Rattle.std.proofs.lemmas.List.Elements.{Contains-push, Contains-push_cases}
use Rattle.indexmap.specs.IndexMap.{IndexMap}
use Rattle.elf_image.specs.Images.{ImageData}
use Rattle.tcd_plan.specs.PlanData.{PlanData}
use Rattle.value_domain.specs.Limits.{Limits}
use Rattle.depth_cert.specs.declared.keys.Key.{Key}
use Rattle.depth_cert.specs.Keys.{is_same_key}
use Rattle.cfg_recover.specs.Assignments.{Place, point, exit, Assignment, is_same_place, key_of_place, AsksFor, Joins, Derived, joined_at_place}
use Rattle.depth_cert.specs.Known.{Known}
use Rattle.cfg_recover.specs.CertRefusals.{IsRefusalFault}
use Rattle.depth_maker.specs.AssignmentCounts.{ListsPointsAndFrames, AreWithinCertLimits, ListsTablePlaces}
use Rattle.depth_maker.proofs.CountLaws.{none_some, distinct_more, frame_stands, counted_rises, counted_exit, counted_point, counted_entry, passed_points, passed_frames}
use Rattle.depth_maker.proofs.Reached.{entry_of}
use Rattle.depth_maker.proofs.PlaceLaws.{place_tells, place_same}
use Rattle.frame_places.proofs.KeyLaws.{key_tells, key_same}
use Rattle.frame_places.specs.declared.places.Spot.{Spot}
use Rattle.frame_places.specs.declared.places.Spot.TheVariants.{Point, Exit}
use Rattle.frame_places.specs.declared.refusals.Refusal.{Refusal}
use Rattle.frame_places.specs.declared.refusals.Refusal.TheVariants.{Fault, NoMemory}
use Rattle.frame_places.specs.Marks.{value_of_place}
use Rattle.frame_places.specs.declared.places.Marked.{Marked}
use Rattle.depth_maker.specs.SpotsAsPlaces.{spot_of, place_of_spot}
use Rattle.frame_places.specs.Counting.{points_after_recording, frames_after_recording, IsLimitRefusal}
use Rattle.depth_maker.specs.Answers.{RefusalNamesFault}

-- few spots are few places
places_length : (ps : List Spot) → length (map place_of_spot ps) ≡ length ps
places_length [] = refl
places_length (p ∷ ps) = ap (λ (n : ℕ). suc n) (places_length ps)

pub are_few : (ps : List Spot) (ks : List Key) → length ps ≤ 2 ^ 16 → length ks ≤ 2048 → AreWithinCertLimits (map place_of_spot ps) ks
are_few ps ks p k = record { points = omega (arith, places_length ps); frames = k }

pub few_spots : (ps : List Spot) (ks : List Key) → AreWithinCertLimits (map place_of_spot ps) ks → (length ps ≤ 2 ^ 16) × (length ks ≤ 2048)
few_spots ps ks few = (let h = few.points in omega (arith, h, places_length ps), few.frames)

-- the same table
pub counted_again : {S T : Type 0} (cells : IndexMap Spot (Marked Known) S) (after : IndexMap Spot (Marked Known) T) (ps qs : List Spot) (ks js : List Key)
    → ((q : Place) → value_of_place after (spot_of q) ≡ value_of_place cells (spot_of q)) → qs ≡ ps → js ≡ ks → ListsTablePlaces cells ps ks → ListsTablePlaces after qs js
counted_again cells after ps qs ks js same p k c = record {
  each = subst (λ (a : Assignment). ListsPointsAndFrames a (map place_of_spot qs) js) (λ i q. sym (same q) i)
      (subst (λ (l : List Spot). ListsPointsAndFrames (λ q. value_of_place cells (spot_of q)) (map place_of_spot l) js) (sym p) (subst (λ (l : List Key). ListsPointsAndFrames (λ q. value_of_place cells (spot_of q)) (map place_of_spot ps) l) (sym k) c.each));
  few = subst (λ (l : List Spot). AreWithinCertLimits (map place_of_spot l) js) (sym p) (subst (λ (l : List Key). AreWithinCertLimits (map place_of_spot ps) l) (sym k) c.few);
}

-- an entry point is that of its own frame
entry_is : (k l : Key) (p : ℕ) → point k p ≡ entry_of l → p ≡ k.entry
entry_is k l p e =
    let key : k ≡ l = cc in
    let addr : p ≡ l.entry = cc in
    addr ∙ sym (ap (λ (z : Key). z.entry) key)

module _ (b : Limits) (image : ImageData) (plan : PlanData) (a after : Assignment) (k : Key) (p : ℕ) (j : Joins b image plan a after (point k p)) (ps : List Place) (ks : List Key) (c : ListsPointsAndFrames a ps ks) (new : a (point k p) ≡ None) where
  fresh : p ≡ k.entry → Contains ks k → ⊥
  fresh e i = none_some (a (point k p)) new (subst (λ (n : ℕ). IsSome (a (point k n))) (sym e) (c.entered k i))

  stands : (p ≡ k.entry → ⊥) → Contains ks k
  stands other = elim (frame_stands b image plan a after (point k p) j ps ks c) [ inl has ↦ has | inr e ↦ absurd (other (entry_is k e.0 p e.1)) ]

  added : (t : Bool) → (p == k.entry) ≡ t → ListsPointsAndFrames after (ps ++ point k p ∷ []) (if t then ks ++ k ∷ [] else ks)
  added true e = counted_entry b image plan a after (point k p) j ps ks c k p refl new (fresh (eqb-true p k.entry e))
  added false e = counted_point b image plan a after (point k p) j ps ks c k p refl new (stands (λ same. let f : true ≡ false = sym (eq-eqb p k.entry same) ∙ e in cc))

  pub counted_more : ListsPointsAndFrames after (ps ++ point k p ∷ []) (if p == k.entry then ks ++ k ∷ [] else ks)
  counted_more = added (p == k.entry) refl

  pub passing : Derived b image plan a → AreWithinCertLimits ps ks → (length ps ≡ 2 ^ 16) ⊎ ((p ≡ k.entry) × (length ks ≡ 2048)) → IsRefusalFault b image plan 15 k p
  passing d few h =
      elim h [
        | inl full ↦ passed_points b image plan a after (point k p) j ps ks c k p refl new d few full
        | inr full ↦ passed_frames b image plan a after (point k p) j ps ks c k p refl new d few (fresh full.0) full.1
      ]

none_of : (o : Option Known) → is_some o ≡ false → o ≡ None
none_of None e = refl
none_of (Some v) e = cc

-- ---- one join
module _ {S T : Type 0} (b : Limits) (image : ImageData) (plan : PlanData) (cells : IndexMap Spot (Marked Known) S) (after : IndexMap Spot (Marked Known) T) where
  at_spot : (t : Bool) (y : Spot) (ps : List Spot) (ks : List Key) → Joins b image plan (λ q. value_of_place cells (spot_of q)) (λ q. value_of_place after (spot_of q)) (place_of_spot y)
      → ListsPointsAndFrames (λ q. value_of_place cells (spot_of q)) (map place_of_spot ps) ks → is_some (value_of_place cells y) ≡ t
      → ListsPointsAndFrames (λ q. value_of_place after (spot_of q)) (map place_of_spot (points_after_recording t ps y)) (frames_after_recording t ks y)
  at_spot true (Point k p) ps ks j c e = counted_rises b image plan (λ q. value_of_place cells (spot_of q)) (λ q. value_of_place after (spot_of q)) (point k p) j (map place_of_spot ps) ks c e
  at_spot true (Exit k) ps ks j c e = counted_rises b image plan (λ q. value_of_place cells (spot_of q)) (λ q. value_of_place after (spot_of q)) (exit k) j (map place_of_spot ps) ks c e
  at_spot false (Exit k) ps ks j c e = counted_exit b image plan (λ q. value_of_place cells (spot_of q)) (λ q. value_of_place after (spot_of q)) (exit k) j (map place_of_spot ps) ks k c refl
  at_spot false (Point k p) ps ks j c e =
      subst (λ (l : List Place). ListsPointsAndFrames (λ q. value_of_place after (spot_of q)) l (if p == k.entry then ks ++ k ∷ [] else ks)) (sym (map-append place_of_spot ps (Point k p ∷ [])))
      (counted_more b image plan (λ q. value_of_place cells (spot_of q)) (λ q. value_of_place after (spot_of q)) k p j (map place_of_spot ps) ks c (none_of (value_of_place cells (Point k p)) e))

pub counted_after : {S T : Type 0} (b : Limits) (image : ImageData) (plan : PlanData) (cells : IndexMap Spot (Marked Known) S) (after : IndexMap Spot (Marked Known) T) (ps qs : List Spot) (ks js : List Key) (y : Spot)
    → Joins b image plan (λ q. value_of_place cells (spot_of q)) (λ q. value_of_place after (spot_of q)) (place_of_spot y) → qs ≡ points_after_recording (is_some (value_of_place cells y)) ps y
    → js ≡ frames_after_recording (is_some (value_of_place cells y)) ks y → AreWithinCertLimits (map place_of_spot qs) js → ListsTablePlaces cells ps ks → ListsTablePlaces after qs js
counted_after b image plan cells after ps qs ks js y j p k few c = record {
  each = subst (λ (l : List Spot). ListsPointsAndFrames (λ q. value_of_place after (spot_of q)) (map place_of_spot l) js) (sym p)
      (subst (λ (l : List Key). ListsPointsAndFrames (λ q. value_of_place after (spot_of q)) (map place_of_spot (points_after_recording (is_some (value_of_place cells y)) ps y)) l) (sym k)
      (at_spot b image plan cells after (is_some (value_of_place cells y)) y ps ks j c.each refl));
  few = few;
}

full_places : (ps : List Spot) (n : ℕ) (P : Type 0) → (length ps ≡ n) ⊎ P → (length (map place_of_spot ps) ≡ n) ⊎ P
full_places ps n P (inl e) = inl (places_length ps ∙ e)
full_places ps n P (inr h) = inr h

-- a limit is passed
pub limit_passed : {S : Type 0} (b : Limits) (image : ImageData) (plan : PlanData) (cells : IndexMap Spot (Marked Known) S) (ps : List Spot) (ks : List Key) (y : Spot) (v : Known)
    → Derived b image plan (λ q. value_of_place cells (spot_of q)) → AsksFor b image plan (λ q. value_of_place cells (spot_of q)) (place_of_spot y) v → ListsTablePlaces cells ps ks
    → (e : Refusal) → IsLimitRefusal (is_some (value_of_place cells y)) ps ks y e → RefusalNamesFault b image plan e
limit_passed b image plan cells ps ks y v d asks c NoMemory h = tt
limit_passed b image plan cells ps ks (Exit k) v d asks c (Fault rule x) h = absurd h.3
limit_passed b image plan cells ps ks (Point k p) v d asks c (Fault rule x) h =
    let new = none_of (value_of_place cells (Point k p)) h.2 in
    let a : Assignment = λ q. value_of_place cells (spot_of q) in
    let j : Joins b image plan a (λ z. if is_same_place z (point k p) then Some v else a z) (point k p) = record { value = v; asks = asks; known = v; raises = ap (λ o. joined_at_place b o v) new; is = λ z. refl } in
    (k, p, ap place_of_spot h.1, subst (λ (n : ℕ). IsRefusalFault b image plan n k p) (sym h.0) (passing b image plan a (λ z. if is_same_place z (point k p) then Some v else a z) k p j (map place_of_spot ps) ks c.each new d c.few (full_places ps _ _ h.3)))

-- ---- the start
alone : {K : Type 0} (x y : K) → Contains (x ∷ []) y → x ≡ y
alone x y c = elim (Contains-push_cases [] x y c) [ inl n ↦ absurd (omega (arith, n.1)) | inr same ↦ same ]

none_once : {K : Type 0} (same : K → K → Bool) → IsDistinct same []
unfolding IsDistinct
none_once same = tt

module _ (a : Assignment) (k : Key) (v : Known) (is : (x : Place) → a x ≡ (if is_same_place x (point k k.entry) then Some v else None)) where
  start_known : IsSome (a (point k k.entry))
  start_known = subst (λ (o : Option Known). IsSome o) (sym (is (point k k.entry) ∙ ap (λ t. if t then Some v else None) (place_same (point k k.entry)))) refl

  only_start : (x : Place) → IsSome (a x) → point k k.entry ≡ x
  only_start x h =
      elim (cases_Bool (is_same_place x (point k k.entry))) [
        | inl t ↦ sym (place_tells x (point k k.entry) t)
        | inr f ↦ absurd (none_some (a x) (is x ∙ ap (λ t. if t then Some v else None) f) h)
      ]

  pub start_counted : ListsPointsAndFrames a (point k k.entry ∷ []) (k ∷ [])
  start_counted = record {
    points = λ j p h. subst (Contains (point k k.entry ∷ [])) (only_start (point j p) h) (Contains-push [] (point k k.entry));
    known = λ x i. subst (λ (z : Place). IsSome (a z) × ((j : Key) × (p : ℕ) × (z ≡ point j p))) (alone (point k k.entry) x i) (start_known, (k, k.entry, refl));
    once = distinct_more is_same_place place_tells place_same [] (point k k.entry) (none_once is_same_place) (λ i. absurd (omega (arith, i.1)));
    frames = λ x h. subst (λ (z : Place). Contains (k ∷ []) (key_of_place z)) (only_start x h) (Contains-push [] k);
    entered = λ j i. subst (λ (z : Key). IsSome (a (entry_of z))) (alone k j i) start_known;
    once_each = distinct_more is_same_key key_tells key_same [] k (none_once is_same_key) (λ i. absurd (omega (arith, i.1)));
  }

pub counted_start : {S : Type 0} (cells : IndexMap Spot (Marked Known) S) (ps : List Spot) (ks : List Key) (k : Key) (v : Known)
    → ((q : Place) → value_of_place cells (spot_of q) ≡ (if is_same_place q (point k k.entry) then Some v else None)) → ps ≡ Point k k.entry ∷ [] → ks ≡ k ∷ [] → ListsTablePlaces cells ps ks
counted_start cells ps ks k v is p e = record {
  each = subst (λ (l : List Spot). ListsPointsAndFrames (λ q. value_of_place cells (spot_of q)) (map place_of_spot l) ks) (sym p)
      (subst (λ (l : List Key). ListsPointsAndFrames (λ q. value_of_place cells (spot_of q)) (point k k.entry ∷ []) l) (sym e) (start_counted (λ q. value_of_place cells (spot_of q)) k v is));
  few = are_few ps ks (rw p (omega arith)) (rw e (omega arith));
}
