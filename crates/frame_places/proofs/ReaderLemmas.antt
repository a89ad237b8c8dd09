-- Readers: one more, or none.
use Rattle.std.proofs.Common.{◌≡◌, ◌⊎◌, inl, inr, List, [], ◌∷◌, ◌++◌, Option, Some, refl, sym, ap, subst, ◌∙◌, Contains}
use Rattle.std.specs.Prelude.{if◌then◌else◌, ◌↔◌}
use Rattle.std.proofs.lemmas.Bool.{cases_Bool}
use Rattle.std.proofs.lemmas.List.Elements.{Contains-append_left, Contains-push, Contains-push_cases}
use Rattle.std.specs.List.Sorted.{IsPermutation}
use Rattle.std.proofs.lemmas.List.Sorted.{Contains-permutation, IsPermutation-sym}
use Rattle.indexmap.specs.IndexMap.{IndexMap, get}
use Rattle.std.specs.declared.vec.Vec.{Vec}
use Rattle.std.specs.declared.alloc.Global.{Global}
use Rattle.frame_places.specs.declared.places.Spot.{Spot}
use Rattle.frame_places.specs.Spots.{spot_eq}
use Rattle.frame_places.proofs.SpotLemmas.{equal_spots_are_same, spot_refl}
use Rattle.frame_places.specs.Marks.{ForgetsReaders, IsAmongReaders, AddsReader}
use Rattle.frame_places.proofs.MarkLemmas.{sides}

-- the readers of z are those before and x; others stay
pub registered : {S : Type 0} (old new : IndexMap Spot (Vec Spot Global) S) (z x : Spot) (more : Vec Spot Global) → ((q : Spot) → get spot_eq new q ≡ (if spot_eq z q then Some more else get spot_eq old q))
    → Contains more.items x → ((q : Spot) → IsAmongReaders (get spot_eq old z) q → Contains more.items q) → ((q : Spot) → Contains more.items q → IsAmongReaders (get spot_eq old z) q ⊎ (q ≡ x)) → AddsReader old new z x
registered old new z x more is has keeps from = record {
  kept = λ p q h.
      elim (sides (spot_eq z p) (Some more) (get spot_eq old p) (get spot_eq new p) (is p)) [
        | inl l ↦ subst (λ (o : Option (Vec Spot Global)). IsAmongReaders o q) (sym l.1) (keeps q (subst (λ (k : Spot). IsAmongReaders (get spot_eq old k) q) (sym (equal_spots_are_same z p l.0)) h))
        | inr r ↦ subst (λ (o : Option (Vec Spot Global)). IsAmongReaders o q) (sym r.1) h
      ];
  there =
      subst (λ (o : Option (Vec Spot Global)). IsAmongReaders o x) (sym (is z ∙ ap (λ e. if e then Some more else get spot_eq old z) (spot_refl z))) has;
  alone = λ p q h.
      elim (sides (spot_eq z p) (Some more) (get spot_eq old p) (get spot_eq new p) (is p)) [
        | inl l ↦ elim (from q (subst (λ (o : Option (Vec Spot Global)). IsAmongReaders o q) l.1 h)) [
          | inl before ↦ inl (subst (λ (k : Spot). IsAmongReaders (get spot_eq old k) q) (equal_spots_are_same z p l.0) before)
          | inr e ↦ inr (l.0, e)
        ]
        | inr r ↦ inl (subst (λ (o : Option (Vec Spot Global)). IsAmongReaders o q) r.1 h)
      ];
}

-- x is added to the readers
pub registered_by : {S : Type 0} (old new : IndexMap Spot (Vec Spot Global) S) (z x : Spot) (list more : Vec Spot Global) → get spot_eq old z ≡ Some list
    → ((q : Spot) → Contains more.items q ↔ (Contains list.items q ⊎ (q ≡ x))) → ((q : Spot) → get spot_eq new q ≡ (if spot_eq z q then Some more else get spot_eq old q)) → AddsReader old new z x
registered_by old new z x list more at adds is =
    registered old new z x more is ((adds x).1 (inr refl)) (λ q h. (adds q).1 (inl (subst (λ (o : Option (Vec Spot Global)). IsAmongReaders o q) at h)))
    (λ q h.
    elim ((adds q).0 h) [
      | inl b ↦ inl (subst (λ (o : Option (Vec Spot Global)). IsAmongReaders o q) (sym at) b)
      | inr e ↦ inr e
    ])

-- no place read y
pub none_forgotten : {S : Type 0} (readers : IndexMap Spot (Vec Spot Global) S) (y : Spot) → ((q : Spot) → IsAmongReaders (get spot_eq readers y) q → ⊥) → ForgetsReaders readers readers y
none_forgotten readers y none = record { gone = none; others = λ p e. refl }

module _ {S : Type 0} (old new : IndexMap Spot (Vec Spot Global) S) (y : Spot) (forgets : ForgetsReaders old new y) where
  -- a place that doesn't read y reads all that it read
  pub still_reads : (p q : Spot) → IsAmongReaders (get spot_eq old p) q → (IsAmongReaders (get spot_eq old y) q → ⊥) → IsAmongReaders (get spot_eq new p) q
  still_reads p q h none =
      elim (cases_Bool (spot_eq y p)) [
        | inl e ↦ absurd (none (subst (λ (k : Spot). IsAmongReaders (get spot_eq old k) q) (sym (equal_spots_are_same y p e)) h))
        | inr e ↦ subst (λ (o : Option (Vec Spot Global)). IsAmongReaders o q) (sym (forgets.others p e)) h
      ]

  -- a place reads no more than it read
  pub read_already : (p q : Spot) → IsAmongReaders (get spot_eq new p) q → IsAmongReaders (get spot_eq old p) q
  read_already p q h =
      elim (cases_Bool (spot_eq y p)) [
        | inl e ↦ absurd (forgets.gone q (subst (λ (k : Spot). IsAmongReaders (get spot_eq new k) q) (sym (equal_spots_are_same y p e)) h))
        | inr e ↦ subst (λ (o : Option (Vec Spot Global)). IsAmongReaders o q) (forgets.others p e) h
      ]

-- ---- duplicates
-- with x appended, or there already, these are all places up to it
pub one_more : (out new list : List Spot) (x : Spot) → ((q : Spot) → Contains new q ↔ (Contains out q ⊎ (q ≡ x))) → ((q : Spot) → Contains out q ↔ Contains list q) → (q : Spot) → Contains new q ↔ Contains (list ++ x ∷ []) q
one_more out new list x step before q = (
  (λ h.
      elim ((step q).0 h) [
        | inl o ↦ Contains-append_left list (x ∷ []) q ((before q).0 o)
        | inr e ↦ subst (λ (y : Spot). Contains (list ++ x ∷ []) y) (sym e) (Contains-push list x)
      ]),
  (λ h.
      (step q).1
      (elim (Contains-push_cases list x q h) [
        | inl b ↦ inl ((before q).1 b)
        | inr e ↦ inr (sym e)
      ])),
)

-- x is appended, and then duplicates are dropped
pub pushed_more : (old pushed new : List Spot) (x : Spot) → pushed ≡ old ++ x ∷ [] → ((q : Spot) → Contains new q ↔ Contains pushed q) → (q : Spot) → Contains new q ↔ (Contains old q ⊎ (q ≡ x))
pushed_more old pushed new x e same q = (
  (λ h.
      elim (Contains-push_cases old x q (subst (λ (l : List Spot). Contains l q) e ((same q).0 h))) [
        | inl b ↦ inl b
        | inr f ↦ inr (sym f)
      ]),
  (λ h.
      (same q).1
      (subst (λ (l : List Spot). Contains l q) (sym e)
      (elim h [
        | inl b ↦ Contains-append_left old (x ∷ []) q b
        | inr f ↦ subst (λ (y : Spot). Contains (old ++ x ∷ []) y) (sym f) (Contains-push old x)
      ]))),
)

-- the same in another order
pub ordered_same : (old new : List Spot) → IsPermutation old new → (q : Spot) → Contains new q ↔ Contains old q
ordered_same old new p q = (Contains-permutation new old q (IsPermutation-sym old new p), Contains-permutation old new q p)

-- the same in another order, without duplicates
pub fewer_same : (old sorted seen out : List Spot) → IsPermutation old sorted → seen ≡ sorted → ((q : Spot) → Contains out q ↔ Contains seen q) → (q : Spot) → Contains out q ↔ Contains old q
fewer_same old sorted seen out p e same q = (
  (λ h. (ordered_same old sorted p q).0 (subst (λ (l : List Spot). Contains l q) e ((same q).0 h))),
  (λ h. (same q).1 (subst (λ (l : List Spot). Contains l q) (sym e) ((ordered_same old sorted p q).1 h))),
)
