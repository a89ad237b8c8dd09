-- A join that changes a table raises its level, and the level has a bound.
use Rattle.std.proofs.Common.{◌≡◌, ◌⊎◌, inl, inr, ℕ, ◌+◌, ◌-◌, ◌^◌, ◌<◌, ◌≤◌, Bool, true, false, not, List, [], ◌∷◌, ◌++◌, length, Option, Some, IsSome, refl, sym, ap, ◌∙◌, subst, arith, Contains}
use Rattle.std.specs.Prelude.{if◌then◌else◌, ◌==◌}
use Rattle.std.specs.List.{sum_by}
use Rattle.std.proofs.lemmas.Bool.{eq-eqb, eqb-true}
use Rattle.std.proofs.lemmas.List.Sorted.{length_permutation}
use Rattle.std.proofs.lemmas.List.Sums.{sum_by-cons, sum_by-le, sum_by-le-sum_by, sum_by_push}
use Rattle.indexmap.specs.IndexMap.{IndexMap}
use Rattle.value_domain.specs.Limits.{Limits, AreLimits}
use Rattle.depth_cert.specs.declared.keys.Key.{Key}
use Rattle.cfg_recover.specs.Assignments.{exit}
use Rattle.depth_cert.specs.Known.{Known}
use Rattle.frame_places.specs.declared.places.Spot.{Spot}
use Rattle.frame_places.specs.declared.places.Spot.TheVariants.{Point, Exit}
use Rattle.frame_places.specs.declared.places.Marked.{Marked}
use Rattle.frame_places.specs.declared.places.Mark.TheVariants.{Queued}
use Rattle.depth_maker.specs.declared.table.Table as made
use Rattle.frame_places.specs.Marks.{AreQueuedPlacesListed, mark_of_place, value_of_place}
use Rattle.depth_maker.specs.TableLevels.{level_of_table, level_of_place, LevelRisesOrStays, LevelRisesOrWorkShrinks}
use Rattle.frame_places.specs.Spots.{spot_eq}
use Rattle.depth_maker.specs.TableInvariant.{AreKnownWellFormed}
use Rattle.depth_maker.specs.AssignmentCounts.{ListsTablePlaces}
use Rattle.frame_places.specs.Counting.{frames_after_recording, points_after_recording}
use Rattle.depth_maker.proofs.CountedLemmas.{few_spots}
use Rattle.depth_maker.proofs.LevelLaws.{at_most, most_rank}
use Rattle.frame_places.proofs.MarkLemmas.{sides}
use Rattle.depth_maker.proofs.PointEntries.{placed}
use Rattle.depth_maker.proofs.SpotLemmas.{front_cases}
use Rattle.frame_places.proofs.SpotLemmas.{spot_refl, equal_spots_are_same}
use Rattle.frame_places.specs.Work.{WorkLists, PopsPlace, all_work}

-- ---- sums
-- no term is lower, and one is higher
sum_higher : {X : Type 0} (f g : X → ℕ) (xs : List X) (y : X) → ((x : X) → f x ≤ g x) → Contains xs y → f y < g y → sum_by f xs < sum_by g xs
sum_higher f g [] y le c lt = absurd (omega (arith, c.1))
sum_higher {X} f g (x ∷ xs) y le c lt =
    elim (front_cases x xs y c) [
      | inl e ↦ (let h : f x < g x = subst (λ (z : X). f z < g z) (sym e) lt in omega (arith, h, sum_by-cons f x xs, sum_by-cons g x xs, sum_by-le-sum_by f g xs le))
      | inr i ↦ omega (arith, le x, sum_by-cons f x xs, sum_by-cons g x xs, sum_higher f g xs y le i lt)
    ]

points_more : (f : Spot → ℕ) (known : Bool) (ps : List Spot) (y : Spot) → sum_by f ps ≤ sum_by f (points_after_recording known ps y)
points_more f true ps y = omega arith
points_more f false ps (Point k p) = omega (arith, sum_by_push f ps (Point k p))
points_more f false ps (Exit k) = omega arith

frames_more : (f : Key → ℕ) (known : Bool) (ks : List Key) (y : Spot) → sum_by f ks ≤ sum_by f (frames_after_recording known ks y)
frames_more f true ks y = omega arith
frames_more f false ks (Exit k) = omega arith
frames_more f false ks (Point k p) = at (p == k.entry) where
  at : (t : Bool) → sum_by f ks ≤ sum_by f (if t then ks ++ k ∷ [] else ks)
  at true = omega (arith, sum_by_push f ks k)
  at false = omega arith

-- ---- a join
module _ (s t : made.Table) (y : Spot) (u : Known) (known : Bool) (after : (q : Spot) → value_of_place t.places q ≡ (if spot_eq y q then Some u else value_of_place s.places q))
    (points : t.points.items ≡ points_after_recording known s.points.items y) (frames : t.frames.items ≡ frames_after_recording known s.frames.items y) (counted : ListsTablePlaces t.places t.points.items t.frames.items)
    (higher : level_of_place (value_of_place s.places y) < level_of_place (Some u)) where
  abbrev old : Spot → ℕ
  old q = level_of_place (value_of_place s.places q)

  abbrev new : Spot → ℕ
  new q = level_of_place (value_of_place t.places q)

  there : value_of_place t.places y ≡ Some u
  there = after y ∙ ap (λ e. if e then Some u else value_of_place s.places y) (spot_refl y)

  at_y : old y < new y
  at_y = subst (λ (o : Option Known). old y < level_of_place o) (sym there) higher

  each : (q : Spot) → old q ≤ new q
  each q =
      elim (sides (spot_eq y q) (Some u) (value_of_place s.places q) (value_of_place t.places q) (after q)) [
        | inl l ↦ subst (λ (z : Spot). old z ≤ new z) (equal_spots_are_same y q l.0) (omega (arith, at_y))
        | inr r ↦ subst (λ (o : Option Known). old q ≤ level_of_place o) (sym r.1) (omega arith)
      ]

  no_point_lost : sum_by old s.points.items ≤ sum_by old t.points.items
  no_point_lost = subst (λ (l : List Spot). sum_by old s.points.items ≤ sum_by old l) (sym points) (points_more old known s.points.items y)

  abbrev old_exit : Key → ℕ
  old_exit k = old (Exit k)

  abbrev new_exit : Key → ℕ
  new_exit k = new (Exit k)

  no_frame_lost : sum_by old_exit s.frames.items ≤ sum_by old_exit t.frames.items
  no_frame_lost = subst (λ (l : List Key). sum_by old_exit s.frames.items ≤ sum_by old_exit l) (sym frames) (frames_more old_exit known s.frames.items y)

  is_some : (q : Spot) → y ≡ q → IsSome (value_of_place t.places q)
  is_some q e = subst (λ (z : Spot). IsSome (value_of_place t.places z)) e (subst (λ (o : Option Known). IsSome o) (sym there) refl)

  higher_at : (q : Spot) → y ≡ q → sum_by old t.points.items + sum_by old_exit t.frames.items < sum_by new t.points.items + sum_by new_exit t.frames.items
  higher_at (Point k p) e =
      let i = placed t.points.items k p (counted.each.points k p (is_some (Point k p) e)) in
      let h = sum_higher old new t.points.items (Point k p) each i (subst (λ (z : Spot). old z < new z) e at_y) in
      omega (arith, h, sum_by-le-sum_by old_exit new_exit t.frames.items (λ j. each (Exit j)))
  higher_at (Exit k) e =
      let i = counted.each.frames (exit k) (is_some (Exit k) e) in
      let h = sum_higher old_exit new_exit t.frames.items k (λ j. each (Exit j)) i (subst (λ (z : Spot). old z < new z) e at_y) in
      omega (arith, h, sum_by-le-sum_by old new t.points.items each)

  pub level_rises : level_of_table s < level_of_table t
  unfolding level_of_table
  level_rises = omega (arith, no_point_lost, no_frame_lost, higher_at y refl)

-- the same values
pub same_level : (s t : made.Table) → ((q : Spot) → value_of_place t.places q ≡ value_of_place s.places q) → t.points.items ≡ s.points.items → t.frames.items ≡ s.frames.items → level_of_table t ≡ level_of_table s
unfolding level_of_table
same_level s t cells points frames =
    λ i. sum_by (λ q. level_of_place (cells q i)) (points i) + sum_by (λ k. level_of_place (cells (Exit k) i)) (frames i)

pub rises_then : (s m t : made.Table) → LevelRisesOrStays s m → LevelRisesOrStays m t → LevelRisesOrStays s t
rises_then s m t (inl a) (inl b) = inl (omega (arith, a, b))
rises_then s m t (inl a) (inr b) = inl (omega (arith, a, b.0))
rises_then s m t (inr a) (inl b) = inl (omega (arith, a.0, b))
rises_then s m t (inr a) (inr b) = inr (b.0 ∙ a.0, b.1 ∙ a.1)

-- ---- the bound
abbrev pub most_level : ℕ
most_level = 2 ^ 55

pub level_most : (b : Limits) (t : made.Table) → AreLimits b → AreKnownWellFormed b t.places → ListsTablePlaces t.places t.points.items t.frames.items → level_of_table t ≤ most_level
unfolding level_of_table
level_most b t limits well_formed counted =
    let few = few_spots t.points.items t.frames.items counted.few in
    let ps = sum_by-le (λ (q : Spot). level_of_place (value_of_place t.places q)) (1 + most_rank) t.points.items (λ k d lt. at_most b (value_of_place t.places _) limits (well_formed _)) in
    let ks = sum_by-le (λ (k : Key). level_of_place (value_of_place t.places (Exit k))) (1 + most_rank) t.frames.items (λ k d lt. at_most b (value_of_place t.places (Exit _)) limits (well_formed (Exit _))) in
    omega (arith, few.0, few.1, ps, ks)

-- ---- turns
-- the list without one place
pub shorter : (old new : WorkLists) (number : ℕ) → PopsPlace old new number → length (all_work old) ≡ length (all_work new) + 1
shorter old new number takes = let e = length_permutation (all_work old) (number ∷ all_work new) takes in omega (arith, e)

-- a visit of one place that was taken off the list
pub visited_one : (s m t : made.Table) → level_of_table m ≡ level_of_table s → length (all_work s.work) ≡ length (all_work m.work) + 1 → LevelRisesOrStays m t → LevelRisesOrWorkShrinks s t
visited_one s m t e len (inl b) = inl (omega (arith, e, b))
visited_one s m t e len (inr b) = inr (b.0 ∙ e, (let l = ap (λ (w : List ℕ). length w) b.1 in omega (arith, len, l)))

pub turns_more : (s m t : made.Table) (i : ℕ) (n : ℕ) → (level_of_table s < level_of_table m) ⊎ ((level_of_table m ≡ level_of_table s) × (length (all_work m.work) + i ≤ n)) → LevelRisesOrWorkShrinks m t → (level_of_table s < level_of_table t) ⊎ ((level_of_table t ≡ level_of_table s) × (length (all_work t.work) + (i + 1) ≤ n))
turns_more s m t i n (inl a) (inl b) = inl (omega (arith, a, b))
turns_more s m t i n (inl a) (inr b) = inl (omega (arith, a, b.0))
turns_more s m t i n (inr a) (inl b) = inl (omega (arith, a.0, b))
turns_more s m t i n (inr a) (inr b) = inr (b.0 ∙ a.0, omega (arith, a.1, b.1))

pub empty_list : {X : Type 0} (xs : List X) → length xs ≡ 0 → xs ≡ []
empty_list [] e = refl
empty_list (x ∷ xs) e = absurd (omega arith)

pub left_over : (s t : made.Table) (i n : ℕ) (empty : Bool) → n ≤ i → (level_of_table s < level_of_table t) ⊎ ((level_of_table t ≡ level_of_table s) × (length (all_work t.work) + i ≤ n)) → empty ≡ (length (all_work t.work) == 0)
    → (not empty ≡ true → level_of_table s < level_of_table t) × (not empty ≡ false → all_work t.work ≡ [])
left_over s t i n true le so is = ((λ e. absurd (let no : false ≡ true = e in cc)), (λ e. empty_list (all_work t.work) (eqb-true (length (all_work t.work)) 0 (sym is))))
left_over s t i n false le (inl lt) is = ((λ e. lt), (λ e. absurd (let no : true ≡ false = e in cc)))
left_over s t i n false le (inr a) is = absurd (let no : false ≡ true = is ∙ eq-eqb (length (all_work t.work)) 0 (omega (arith, a.1)) in cc)

-- what is left up to the bound falls
pub level_falls : (l m : ℕ) → l < m → m ≤ most_level → most_level - m < most_level - l
level_falls l m lt most = omega (arith, lt, most)

-- nothing is queued if the list is empty
pub none_queued : {V S : Type 0} (places : IndexMap Spot (Marked V) S) (work : List ℕ) → AreQueuedPlacesListed places work → work ≡ [] → (q : Spot) → mark_of_place places q ≡ Some Queued → ⊥
none_queued places work listed e q at = let i = listed.listed q at in let z = ap (λ (w : List ℕ). length w) e in omega (arith, i.1.1, z)
