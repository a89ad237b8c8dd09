-- Marks: one more place, and all places of a list.
use Rattle.std.proofs.Common.{◌≡◌, ℕ, Bool, true, false, ◌⊎◌, inl, inr, List, [], ◌∷◌, ◌++◌, Option, Some, None, IsSome, refl, sym, ap, subst, ◌∙◌, Contains}
use Rattle.std.specs.Prelude.{if◌then◌else◌, slice_get}
use Rattle.std.specs.Map.{keys_of, lookup}
use Rattle.std.specs.Option.{option_map}
use Rattle.std.proofs.lemmas.List.Elements.{Contains-append_left, Contains-push, Contains-push_cases}
use Rattle.frame_places.proofs.WorkLemmas.{Adds, adds_kept, adds_only, adds_there}
use Rattle.indexmap.specs.IndexMap.{IndexMap, get}
use Rattle.frame_places.specs.declared.places.Spot.{Spot}
use Rattle.frame_places.specs.declared.places.Mark.{Mark}
use Rattle.frame_places.specs.declared.places.Marked.{Marked}
use Rattle.frame_places.specs.declared.places.Mark.TheVariants.{Queued}
use Rattle.frame_places.specs.Numbers.{PlaceHasNumber, KeepsPlaceNumbers}
use Rattle.frame_places.specs.Spots.{spot_eq}
use Rattle.frame_places.proofs.SpotLemmas.{equal_spots_are_same, spot_refl}
use Rattle.frame_places.specs.Marks.{AreQueuedPlacesListed, AreKnownPlaces, MarksPlaceAs, SetsAndQueuesPlace, RequeuesPlaces, is_queued, mark_of_place, value_of_place}

-- which side of an if
pub sides : {X : Type 0} (b : Bool) (x y o : X) → o ≡ (if b then x else y) → ((b ≡ true) × (o ≡ x)) ⊎ ((b ≡ false) × (o ≡ y))
sides true x y o e = inl (refl, e)
sides false x y o e = inr (refl, e)

-- ---- one place
picked : {X Y : Type 0} (f : X → Y) (t : Bool) (w : X) (o : Option X) → option_map f (if t then Some w else o) ≡ (if t then Some (f w) else option_map f o)
picked f true w o = refl
picked f false w o = refl

module _ {V S : Type 0} (a b : IndexMap Spot (Marked V) S) (x : Spot) (w : Marked V) (is : (q : Spot) → get spot_eq b q ≡ (if spot_eq x q then Some w else get spot_eq a q)) where
  pub values_after : (q : Spot) → value_of_place b q ≡ (if spot_eq x q then Some w.value else value_of_place a q)
  values_after q = ap (option_map (λ (m : Marked V). m.value)) (is q) ∙ picked (λ (m : Marked V). m.value) (spot_eq x q) w (get spot_eq a q)

  pub marks_after : (q : Spot) → mark_of_place b q ≡ (if spot_eq x q then Some w.mark else mark_of_place a q)
  marks_after q = ap (option_map (λ (m : Marked V). m.mark)) (is q) ∙ picked (λ (m : Marked V). m.mark) (spot_eq x q) w (get spot_eq a q)

  -- only its mark changes
  pub marks_as : value_of_place a x ≡ Some w.value → KeepsPlaceNumbers a b → MarksPlaceAs a b x w.mark
  marks_as had numbers = record {
    values = λ q.
        elim (sides (spot_eq x q) (Some w.value) (value_of_place a q) (value_of_place b q) (values_after q)) [
          | inl l ↦ l.1 ∙ sym had ∙ ap (value_of_place a) (equal_spots_are_same x q l.0)
          | inr r ↦ r.1
        ];
    marks = marks_after;
    numbers = numbers;
  }

  -- or its value
  pub puts_as : w.mark ≡ Queued → KeepsPlaceNumbers a b → SetsAndQueuesPlace a b x w.value
  puts_as queued numbers = record {
    values = values_after;
    marks = λ q. marks_after q ∙ ap (λ (m : Mark). if spot_eq x q then Some m else mark_of_place a q) queued;
    numbers = numbers;
  }

-- it has that mark already
marked_there : (t : Bool) (o p : Option Mark) → (t ≡ true → o ≡ p) → o ≡ (if t then p else o)
marked_there true o p same = same refl
marked_there false o p same = refl

pub marked_already : {V S : Type 0} (a : IndexMap Spot (Marked V) S) (x : Spot) (mark : Mark) → mark_of_place a x ≡ Some mark → MarksPlaceAs a a x mark
marked_already a x mark at = record {
  values = λ q. refl;
  marks = λ q. marked_there (spot_eq x q) (mark_of_place a q) (Some mark) (λ e. ap (mark_of_place a) (sym (equal_spots_are_same x q e)) ∙ at);
  numbers = λ n q h. h;
}

-- ---- the list
module _ {V S : Type 0} (a b : IndexMap Spot (Marked V) S) (work : List ℕ) (number : ℕ) (x : Spot) (is : (q : Spot) → mark_of_place b q ≡ (if spot_eq x q then Some Queued else mark_of_place a q)) (numbers : KeepsPlaceNumbers a b) where
  pub AllListed-adds : (more : List ℕ) → Adds work more number → PlaceHasNumber b number x → AreQueuedPlacesListed a work → AreQueuedPlacesListed b more
  AllListed-adds more adds stands h = record {
    listed = λ q at.
        elim (sides (spot_eq x q) (Some Queued) (mark_of_place a q) (mark_of_place b q) (is q)) [
          | inl l ↦ (number, adds_there work more number adds, subst (λ (k : Spot). PlaceHasNumber b number k) (equal_spots_are_same x q l.0) stands)
          | inr r ↦ (let f = h.listed q (sym r.1 ∙ at) in (f.0, adds_kept work more number f.0 adds f.1, numbers f.0 q f.2))
        ];
    known = λ n c.
        elim (adds_only work more number n adds c) [
          | inl before ↦ (let f = h.known n before in (f.0, numbers n f.0 f.1))
          | inr e ↦ (x, subst (λ (k : ℕ). PlaceHasNumber b k x) e stands)
        ];
  }

  -- it was there already
  pub AllListed-again : mark_of_place a x ≡ Some Queued → AreQueuedPlacesListed a work → AreQueuedPlacesListed b work
  AllListed-again before h = record {
    listed = λ q at.
        elim (sides (spot_eq x q) (Some Queued) (mark_of_place a q) (mark_of_place b q) (is q)) [
          | inl l ↦ (let f = h.listed q (ap (mark_of_place a) (sym (equal_spots_are_same x q l.0)) ∙ before) in (f.0, f.1, numbers f.0 q f.2))
          | inr r ↦ (let f = h.listed q (sym r.1 ∙ at) in (f.0, f.1, numbers f.0 q f.2))
        ];
    known = λ n c. (let f = h.known n c in (f.0, numbers n f.0 f.1));
  }

-- ---- queueing readers
pub Requeues-none : {V S : Type 0} (a : IndexMap Spot (Marked V) S) (these : Spot → Type 0) → ((q : Spot) → these q → ⊥) → RequeuesPlaces a a these
Requeues-none a these none = record { values = λ q. refl; marks = λ q. inr (refl, none q); numbers = λ n q h. h }

pub Requeues-push : {V S : Type 0} (a b c : IndexMap Spot (Marked V) S) (ps : List Spot) (x : Spot) → RequeuesPlaces a b (Contains ps) → MarksPlaceAs b c x Queued → RequeuesPlaces a c (Contains (ps ++ x ∷ []))
Requeues-push a b c ps x t is = record {
  values = λ q. is.values q ∙ t.values q;
  marks = λ q.
      elim (sides (spot_eq x q) (Some Queued) (mark_of_place b q) (mark_of_place c q) (is.marks q)) [
        | inl l ↦ inl (l.1, subst (λ (k : Spot). Contains (ps ++ x ∷ []) k) (equal_spots_are_same x q l.0) (Contains-push ps x))
        | inr r ↦ elim (t.marks q) [
          | inl u ↦ inl (r.1 ∙ u.0, Contains-append_left ps (x ∷ []) q u.1)
          | inr u ↦ inr (
            r.1 ∙ u.0,
            (λ has. elim (Contains-push_cases ps x q has) [
              | inl before ↦ u.1 before
              | inr e ↦ (let no : true ≡ false = sym (subst (λ (k : Spot). spot_eq x k ≡ true) e (spot_refl x)) ∙ r.0 in cc)
            ]),
          )
        ]
      ];
  numbers = λ n q h. is.numbers n q (t.numbers n q h);
}

-- known places stay known
pub known_requeued : {V S : Type 0} (a b : IndexMap Spot (Marked V) S) (these all : Spot → Type 0) → RequeuesPlaces a b these → AreKnownPlaces a all → AreKnownPlaces b all
known_requeued {V} a b these all t h q i = subst (λ (o : Option V). IsSome o) (sym (t.values q)) (h q i)

pub unknown_place : {V : Type 0} (o : Option (Marked V)) → option_map (λ m. m.value) o ≡ None → o ≡ None
unknown_place None e = refl
unknown_place (Some m) e = (let no : Some m.value ≡ None = e in cc)

-- from the place that is found
pub work_had : {V S : Type 0} (places : IndexMap Spot (Marked V) S) (q : Spot) (m : Marked V) → get spot_eq places q ≡ Some m → is_queued (mark_of_place places q) ≡ is_queued (Some m.mark)
work_had places q m e = ap (λ o. is_queued (option_map (λ k. k.mark) o)) e

pub not_queued : (m : Mark) → (m ≡ Queued → ⊥) → is_queued (Some m) ≡ false
not_queued Queued other = absurd (other refl)
not_queued _ other = refl

-- ---- the same entries
module _ {V S : Type 0} (a b : IndexMap Spot (Marked V) S) (same : b.entries ≡ a.entries) where
  pub same_value : (q : Spot) → value_of_place b q ≡ value_of_place a q
  same_value q = ap (λ (es : List (Spot × Marked V)). option_map (λ (m : Marked V). m.value) (lookup (spot_eq q) es)) same

  pub same_mark : (q : Spot) → mark_of_place b q ≡ mark_of_place a q
  same_mark q = ap (λ (es : List (Spot × Marked V)). option_map (λ (m : Marked V). m.mark) (lookup (spot_eq q) es)) same

  pub same_number : (number : ℕ) (q : Spot) → PlaceHasNumber a number q → PlaceHasNumber b number q
  same_number number q h = ap (λ (es : List (Spot × Marked V)). slice_get (keys_of es) number) same ∙ h
