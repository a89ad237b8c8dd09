-- The limits of nodes and points, by counts.
use Rattle.std.proofs.Common.{◌≡◌, ◌⊎◌, inl, inr, ℕ, ◌^◌, Bool, true, false, List, [], ◌∷◌, ◌++◌, length, length-append, Option, Some, None, IsSome, refl, sym, ap, ◌∙◌, subst, arith, Contains}
use Rattle.std.specs.Prelude.{if◌then◌else◌}
use Rattle.std.specs.List.{IsDistinct, list_any}
use Rattle.std.proofs.lemmas.Bool.{cases_Bool}
use Rattle.std.proofs.lemmas.List.Elements.{Contains-append_left, Contains-push, Contains-push_cases}
use Rattle.std.proofs.lemmas.Map.Keys.{IsDistinct-push}
use Rattle.elf_image.specs.Images.{ImageData}
use Rattle.tcd_plan.specs.PlanData.{PlanData}
use Rattle.value_domain.specs.Limits.{Limits}
use Rattle.depth_cert.specs.declared.keys.Key.{Key}
use Rattle.depth_cert.specs.Keys.{is_same_key}
use Rattle.cfg_recover.specs.Assignments.{Place, point, exit, Assignment, is_same_place, key_of_place, Joins, Derived}
use Rattle.depth_cert.specs.Known.{Known}
use Rattle.cfg_recover.specs.CertRefusals.{IsPastCertLimits, IsRefusalFault, limits}
use Rattle.depth_maker.specs.AssignmentCounts.{ListsPointsAndFrames, AreWithinCertLimits}
use Rattle.frame_places.proofs.KeyLaws.{key_tells, key_same}
use Rattle.depth_maker.proofs.PlaceLaws.{place_tells, place_same}
use Rattle.depth_maker.proofs.Sizes.{decides, any_contained, no_more}
use Rattle.depth_maker.proofs.Reached.{entry_of, asked_where}

-- ---- within
pub counted_within : (a : Assignment) (ps : List Place) (ks : List Key) → ListsPointsAndFrames a ps ks → AreWithinCertLimits ps ks → IsPastCertLimits a → ⊥
counted_within a ps ks c few h =
    elim h [
      | inl n ↦
          let le = no_more is_same_key key_tells key_same n.keys ks n.distinct
          (λ k i. let s = n.stand k i in
          elim s.2 [
            | inl e ↦ subst (λ (y : Place). Contains ks (key_of_place y)) e (c.frames s.0 s.1)
            | inr e ↦ subst (λ (y : Place). Contains ks (key_of_place y)) e.1 (c.frames s.0 s.1)
          ]) in
          absurd (omega (arith, n.more, few.frames, le))
      | inr n ↦
          let le = no_more is_same_place place_tells place_same n.places ps n.distinct
          (λ y i. let s = n.stand y i in
          subst (Contains ps) (sym (s.1).2) (c.points (s.1).0 (s.1).1 (subst (λ (z : Place). IsSome (a z)) (s.1).2 s.0))) in
          absurd (omega (arith, n.more, few.points, le))
    ]

-- ---- one more
pub none_some : (o : Option Known) → o ≡ None → IsSome o → ⊥
none_some None e h = let f : false ≡ true = h in cc
none_some (Some v) e h = let f : Some v ≡ None = e in cc

pub distinct_more : {K : Type 0} (same : K → K → Bool) (tells : (x y : K) → same x y ≡ true → x ≡ y) (own : (x : K) → same x x ≡ true) (xs : List K) (y : K) → IsDistinct same xs → (Contains xs y → ⊥) → IsDistinct same (xs ++ y ∷ [])
distinct_more same tells own xs y once absent =
    IsDistinct-push (decides same tells own) xs y once
    (elim (cases_Bool (list_any (same y) xs)) [ inl t ↦ absurd (absent (any_contained same tells own xs y t)) | inr f ↦ f ])

module _ (b : Limits) (image : ImageData) (plan : PlanData) (a after : Assignment) (y : Place) (j : Joins b image plan a after y) where
  stays : (x : Place) → IsSome (a x) → IsSome (after x)
  stays x h = at (is_same_place x y) (j.is x) where
    at : (t : Bool) → after x ≡ (if t then Some j.known else a x) → IsSome (after x)
    at true e = subst (λ (o : Option Known). IsSome o) (sym e) refl
    at false e = subst (λ (o : Option Known). IsSome o) (sym e) h

  added : IsSome (after y)
  added = subst (λ (o : Option Known). IsSome o) (sym (j.is y ∙ ap (λ t. if t then Some j.known else a y) (place_same y))) refl

  before : (x : Place) → IsSome (after x) → (x ≡ y) ⊎ IsSome (a x)
  before x h =
      elim (cases_Bool (is_same_place x y)) [
        | inl t ↦ inl (place_tells x y t)
        | inr f ↦ inr (subst (λ (o : Option Known). IsSome o) (j.is x ∙ ap (λ t. if t then Some j.known else a x) f) h)
      ]

  -- the state of a known place rises
  pub counted_rises : (ps : List Place) (ks : List Key) → ListsPointsAndFrames a ps ks → IsSome (a y) → ListsPointsAndFrames after ps ks
  counted_rises ps ks c old = record {
    points = λ k p h. elim (before (point k p) h) [ inl e ↦ c.points k p (subst (λ (z : Place). IsSome (a z)) (sym e) old) | inr g ↦ c.points k p g ];
    known = λ x i. let s = c.known x i in (stays x s.0, s.1);
    once = c.once;
    frames = λ x h. elim (before x h) [ inl e ↦ subst (λ (z : Place). Contains ks (key_of_place z)) (sym e) (c.frames y old) | inr g ↦ c.frames x g ];
    entered = λ k i. stays (entry_of k) (c.entered k i);
    once_each = c.once_each;
  }

  -- the frame of an asked place is there, or its entry is asked for
  pub frame_stands : (ps : List Place) (ks : List Key) → ListsPointsAndFrames a ps ks → Contains ks (key_of_place y) ⊎ ((k : Key) × (y ≡ entry_of k))
  frame_stands ps ks c =
      let k = j.asks in
      elim (asked_where a k.key k.before k.duty y j.value k.asks) [
        | inl e ↦ inl (subst (Contains ks) (sym e) (c.frames (point k.key k.addr) (subst (λ (o : Option Known). IsSome o) (sym (k.has).at) refl)))
        | inr e ↦ inr (e.0, e.3)
      ]

  -- an exit is added
  pub counted_exit : (ps : List Place) (ks : List Key) (l : Key) → ListsPointsAndFrames a ps ks → y ≡ exit l → ListsPointsAndFrames after ps ks
  counted_exit ps ks l c is = record {
    points = λ k p h. elim (before (point k p) h) [ inl e ↦ absurd (let f : point k p ≡ exit l = e ∙ is in cc) | inr g ↦ c.points k p g ];
    known = λ x i. let s = c.known x i in (stays x s.0, s.1);
    once = c.once;
    frames = λ x h.
        elim (before x h) [
          | inl e ↦ elim (frame_stands ps ks c) [
            | inl has ↦ subst (λ (z : Place). Contains ks (key_of_place z)) (sym e) has
            | inr n ↦ absurd (let f : exit l ≡ entry_of n.0 = sym is ∙ n.1 in cc)
          ]
          | inr g ↦ c.frames x g
        ];
    entered = λ k i. stays (entry_of k) (c.entered k i);
    once_each = c.once_each;
  }

  module _ (ps : List Place) (ks : List Key) (c : ListsPointsAndFrames a ps ks) (l : Key) (q : ℕ) (is : y ≡ point l q) (new : a y ≡ None) where
    absent : Contains ps y → ⊥
    absent i = none_some (a y) new (c.known y i).0

    more_points : (k : Key) (p : ℕ) → IsSome (after (point k p)) → Contains (ps ++ y ∷ []) (point k p)
    more_points k p h =
        elim (before (point k p) h) [
          | inl e ↦ subst (Contains (ps ++ y ∷ [])) (sym e) (Contains-push ps y)
          | inr g ↦ Contains-append_left ps (y ∷ []) (point k p) (c.points k p g)
        ]

    more_known : (x : Place) → Contains (ps ++ y ∷ []) x → IsSome (after x) × ((k : Key) × (p : ℕ) × (x ≡ point k p))
    more_known x i =
        elim (Contains-push_cases ps y x i) [
          | inl old ↦ let s = c.known x old in (stays x s.0, s.1)
          | inr e ↦ (subst (λ (z : Place). IsSome (after z)) e added, (l, q, sym e ∙ is))
        ]

    -- a point of a known frame is added
    pub counted_point : Contains ks l → ListsPointsAndFrames after (ps ++ y ∷ []) ks
    counted_point has = record {
      points = more_points;
      known = more_known;
      once = distinct_more is_same_place place_tells place_same ps y c.once absent;
      frames = λ x h. elim (before x h) [ inl e ↦ subst (λ (z : Place). Contains ks (key_of_place z)) (sym (e ∙ is)) has | inr g ↦ c.frames x g ];
      entered = λ k i. stays (entry_of k) (c.entered k i);
      once_each = c.once_each;
    }

    -- the entry of a new frame is added
    pub counted_entry : (Contains ks l → ⊥) → ListsPointsAndFrames after (ps ++ y ∷ []) (ks ++ l ∷ [])
    counted_entry fresh = record {
      points = more_points;
      known = more_known;
      once = distinct_more is_same_place place_tells place_same ps y c.once absent;
      frames = λ x h.
          elim (before x h) [
            | inl e ↦ subst (λ (z : Place). Contains (ks ++ l ∷ []) (key_of_place z)) (sym (e ∙ is)) (Contains-push ks l)
            | inr g ↦ Contains-append_left ks (l ∷ []) (key_of_place x) (c.frames x g)
          ];
      entered = λ k i.
          elim (Contains-push_cases ks l k i) [
            | inl old ↦ stays (entry_of k) (c.entered k old)
            | inr e ↦ elim (frame_stands ps ks c) [
              | inl has ↦ absurd (fresh (subst (λ (z : Place). Contains ks (key_of_place z)) is has))
              | inr n ↦
                  let same : l ≡ n.0 = ap key_of_place (sym is ∙ n.1) in
                  subst (λ (z : Key). IsSome (after (entry_of z))) (sym same ∙ e) (subst (λ (z : Place). IsSome (after z)) n.1 added)
            ]
          ];
      once_each = distinct_more is_same_key key_tells key_same ks l c.once_each fresh;
    }

    -- ---- a limit is passed
    passed : Derived b image plan a → AreWithinCertLimits ps ks → IsPastCertLimits after → IsRefusalFault b image plan 15 l q
    passed d few more =
        limits l q (record {
          before = a;
          after = after;
          derived = d;
          within = counted_within a ps ks c few;
          joins = subst (Joins b image plan a after) is j;
          adds = sym (ap a is) ∙ new;
          more = more;
        })

    pub passed_points : Derived b image plan a → AreWithinCertLimits ps ks → length ps ≡ 2 ^ 16 → IsRefusalFault b image plan 15 l q
    passed_points d few full =
        passed d few (inr (record {
          places = ps ++ y ∷ [];
          distinct = distinct_more is_same_place place_tells place_same ps y c.once absent;
          stand = more_known;
          more = omega (arith, length-append ps (y ∷ []), full);
        }))

    pub passed_frames : Derived b image plan a → AreWithinCertLimits ps ks → (Contains ks l → ⊥) → length ks ≡ 2048 → IsRefusalFault b image plan 15 l q
    passed_frames d few fresh full =
        let m = counted_entry fresh in
        passed d few (inl (record {
          keys = ks ++ l ∷ [];
          distinct = m.once_each;
          stand = λ k i. (entry_of k, m.entered k i, inr (k.entry, refl));
          more = omega (arith, length-append ks (l ∷ []), full);
        }))
