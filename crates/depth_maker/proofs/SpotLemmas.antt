-- Places and the code's type of places.
use Rattle.std.specs.Prelude.{◌≡◌, ◌⊎◌, refl, true, false, List, [], ◌∷◌}
use Rattle.std.proofs.Common.{ap, sym, subst, ◌∙◌, inl, inr, arith, Contains}
use Rattle.std.proofs.lemmas.List.Elements.{Contains-append_cases, Contains-push_cases}
use Rattle.std.proofs.lemmas.Bool.{cases_Bool}
use Rattle.cfg_recover.specs.Assignments.{Place, point, exit, is_same_place}
use Rattle.frame_places.proofs.SpotLemmas.{equal_spots_are_same, spot_refl}
use Rattle.depth_maker.proofs.PlaceLaws.{place_tells, place_same}
use Rattle.frame_places.specs.declared.places.Spot.{Spot}
use Rattle.frame_places.specs.declared.places.Spot.TheVariants.{Point, Exit}
use Rattle.depth_maker.specs.SpotsAsPlaces.{spot_of, place_of_spot}
use Rattle.frame_places.specs.Spots.{spot_eq}

-- back and forth
pub back : (x : Place) → place_of_spot (spot_of x) ≡ x
back (point k p) = refl
back (exit k) = refl

pub forth : (x : Spot) → spot_of (place_of_spot x) ≡ x
forth (Point f p) = refl
forth (Exit f) = refl

-- both equality tests agree
pub agrees : (x y : Place) → spot_eq (spot_of y) (spot_of x) ≡ is_same_place x y
agrees x y =
    elim (cases_Bool (is_same_place x y)) [
      | inl e ↦ subst (λ (z : Place). spot_eq (spot_of z) (spot_of x) ≡ true) (place_tells x y e) (spot_refl (spot_of x)) ∙ sym e
      | inr e ↦ elim (cases_Bool (spot_eq (spot_of y) (spot_of x))) [
        | inl t ↦
            let one : y ≡ x = sym (back y) ∙ ap place_of_spot (equal_spots_are_same (spot_of y) (spot_of x) t) ∙ back x in
            let no : true ≡ false = sym (place_same x) ∙ ap (is_same_place x) (sym one) ∙ e in
            cc
        | inr f ↦ f ∙ sym e
      ]
    ]

-- ---- lists
-- the first of a list, or one of the others
pub front_cases : {X : Type 0} (x : X) (xs : List X) (d : X) → Contains (x ∷ xs) d → (x ≡ d) ⊎ Contains xs d
front_cases x xs d h =
    elim (Contains-append_cases (x ∷ []) xs d h) [
      | inl l ↦ elim (Contains-push_cases [] x d l) [ inl n ↦ absurd (omega (arith, n.1)) | inr e ↦ inl e ]
      | inr r ↦ inr r
    ]
