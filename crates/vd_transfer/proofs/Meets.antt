-- The members that are in a relation to some member of another value.
use Rattle.std.proofs.Common.{◌≡◌, ℕ, ◌^◌, ◌<◌, ◌≤◌, ◌⊎◌, inl, inr, Bool, true, false, not, List, [], ◌∷◌, Option, Some, None, ◌++◌, append-nil, refl, sym, ap, ◌∙◌, subst, arith, leb, ltb, eqb}
use Rattle.std.specs.List.{filter, list_any}
use Rattle.std.proofs.lemmas.Bool.{cases_Bool, leb-true, le-leb, cases_order, eqb-true, eqb-false, eq-eqb, ne_eqb, lt-ltb, ltb-true, not-true, not_from_false}
use Rattle.value_domain.specs.Sets.{Among, IsExtent}
use Rattle.value_domain.specs.Limits.{Limits}
use Rattle.value_domain.specs.declared.values.Val.{Val}
use Rattle.value_domain.specs.Values.{cover, multiples_in_range, is_in_span}
use Rattle.value_domain.specs.Meets.{cover_if_any}
use Rattle.value_domain.proofs.CoverLaws.{range_among, among_range}
use Rattle.value_domain.proofs.ExtentLaws.{append_left, append_right, among_append}
use Rattle.value_domain.proofs.MeetLaws.{cover_some-same, among_filter, filter_has, in_span_parts, in_span_from, any_among, among_any}
use Rattle.vd_transfer.specs.Relations.{is_related, MayBeRelated, related_words}
use Rattle.vd_transfer.specs.Intervals.{IsInInterval}
use Rattle.vd_transfer.specs.declared.refinement.Relation.{Relation}
use Rattle.vd_transfer.specs.declared.refinement.Relation.TheVariants.{Same, Other, Less, AtLeast, More, AtMost}
use Rattle.vd_transfer.specs.declared.refinement.Interval.{Interval}
use Rattle.vd_transfer.proofs.RelationLaws.{filter_none}

-- ---- some word of a set in a relation
pub reaches : (rel : Relation) (x low high s : ℕ) (ws : List ℕ) → (rel ≡ Same → ⊥) → IsExtent ws low high s
    → (list_any (λ y. is_related rel x y) ws ≡ true → MayBeRelated rel low high x) × (MayBeRelated rel low high x → list_any (λ y. is_related rel x y) ws ≡ true)
unfolding is_related MayBeRelated
reaches Same x low high s ws order e = absurd (order refl)
reaches Other x low high s ws order e = (
  (λ t.
      let r = any_among (λ y. not (eqb x y)) ws t in
      let ne : eqb x r.0 ≡ false = not-true (eqb x r.0) r.2 in
      elim (cases_order x r.0) [
        | inl same ↦ absurd (eqb-false x r.0 ne same)
        | inr (inl lt) ↦ inl (omega (arith, e.high r.0 r.1))
        | inr (inr gt) ↦ inr (omega (arith, e.low r.0 r.1))
      ]),
  (λ r. elim r [
    | inl lt ↦ among_any (λ y. not (eqb x y)) high ws e.high_in (not_from_false (eqb x high) (ne_eqb x high (λ f. omega arith)))
    | inr gt ↦ among_any (λ y. not (eqb x y)) low ws e.low_in (not_from_false (eqb x low) (ne_eqb x low (λ f. omega arith)))
  ]),
)
reaches Less x low high s ws order e = (
  (λ t. let r = any_among (λ y. ltb x y) ws t in omega (arith, e.high r.0 r.1, ltb-true x r.0 r.2)),
  (λ r. among_any (λ y. ltb x y) high ws e.high_in (lt-ltb x high r)),
)
reaches AtLeast x low high s ws order e = (
  (λ t. let r = any_among (λ y. leb y x) ws t in omega (arith, e.low r.0 r.1, leb-true r.0 x r.2)),
  (λ r. among_any (λ y. leb y x) low ws e.low_in (le-leb low x r)),
)
reaches More x low high s ws order e = (
  (λ t. let r = any_among (λ y. ltb y x) ws t in omega (arith, e.low r.0 r.1, ltb-true r.0 x r.2)),
  (λ r. among_any (λ y. ltb y x) low ws e.low_in (lt-ltb low x r)),
)
reaches AtMost x low high s ws order e = (
  (λ t. let r = any_among (λ y. leb x y) ws t in omega (arith, e.high r.0 r.1, leb-true x r.0 r.2)),
  (λ r. among_any (λ y. leb x y) high ws e.high_in (le-leb x high r)),
)

-- no word is in an empty interval
not_in : (lo last z : ℕ) → last < lo → is_in_span lo last 0 z ≡ false
not_in lo last z lt =
    elim (cases_Bool (is_in_span lo last 0 z)) [
      | inl t ↦ absurd (let n = in_span_parts lo last 0 z t in omega (arith, n.0, n.1))
      | inr f ↦ f
    ]

pub past_empty : (b : Limits) (i : Interval) (xs vs : List ℕ) → i.last < i.lo → cover_if_any b xs ≡ cover_if_any b (xs ++ filter (is_in_span i.lo i.last 0) vs)
past_empty b i xs vs lt =
    ap (cover_if_any b)
    (sym (append-nil xs) ∙ ap (λ (l : List ℕ). xs ++ l) (sym (filter_none (is_in_span i.lo i.last 0) vs (λ z. not_in i.lo i.last z lt))))

-- parts without members
pub none_before : (b : Limits) (xs ys : List ℕ) (o : Option Val) → None ≡ cover_if_any b xs → o ≡ cover_if_any b ys → o ≡ cover_if_any b (xs ++ ys)
none_before b [] ys o e f = f
none_before b (x ∷ xs) ys o e f = absurd (let g : None ≡ Some (cover b (x ∷ xs)) = e in cc)

pub none_after : (b : Limits) (xs ys : List ℕ) (o : Option Val) → o ≡ cover_if_any b xs → None ≡ cover_if_any b ys → o ≡ cover_if_any b (xs ++ ys)
none_after b xs [] o e f = e ∙ ap (cover_if_any b) (sym (append-nil xs))
none_after b xs (y ∷ ys) o e f = absurd (let g : None ≡ Some (cover b (y ∷ ys)) = f in cc)

-- the members of two intervals
pub kept_intervals : (b : Limits) (rel : Relation) (vs ws : List ℕ) (i j : Interval) (low high s : ℕ) → (rel ≡ Same → ⊥) → IsExtent ws low high s
    → ((x : ℕ) → Among x vs → x < 2 ^ 32)
    → ((x : ℕ) → x < 2 ^ 32 → (IsInInterval i x ⊎ IsInInterval j x → MayBeRelated rel low high x) × (MayBeRelated rel low high x → IsInInterval i x ⊎ IsInInterval j x))
    → cover_if_any b (filter (is_in_span i.lo i.last 0) vs ++ filter (is_in_span j.lo j.last 0) vs) ≡ cover_if_any b (related_words rel vs ws)
unfolding related_words
kept_intervals b rel vs ws i j low high s order e small are =
    cover_some-same b (filter (is_in_span i.lo i.last 0) vs ++ filter (is_in_span j.lo j.last 0) vs) (filter (λ x. list_any (λ y. is_related rel x y) ws) vs)
    (λ z k. elim (among_append z (filter (is_in_span i.lo i.last 0) vs) (filter (is_in_span j.lo j.last 0) vs) k) [
      | inl l ↦
          let f = among_filter (is_in_span i.lo i.last 0) z vs l in
          let n = in_span_parts i.lo i.last 0 z f.1 in
          filter_has (λ x. list_any (λ y. is_related rel x y) ws) z vs f.0 ((reaches rel z low high s ws order e).1 ((are z (small z f.0)).0 (inl (n.0, n.1))))
      | inr l ↦
          let f = among_filter (is_in_span j.lo j.last 0) z vs l in
          let n = in_span_parts j.lo j.last 0 z f.1 in
          filter_has (λ x. list_any (λ y. is_related rel x y) ws) z vs f.0 ((reaches rel z low high s ws order e).1 ((are z (small z f.0)).0 (inr (n.0, n.1))))
    ])
    (λ z k.
    let f = among_filter (λ x. list_any (λ y. is_related rel x y) ws) z vs k in
    elim ((are z (small z f.0)).1 ((reaches rel z low high s ws order e).0 f.1)) [
      | inl n ↦ append_left z (filter (is_in_span i.lo i.last 0) vs) (filter (is_in_span j.lo j.last 0) vs) (filter_has (is_in_span i.lo i.last 0) z vs f.0 (in_span_from i.lo i.last 0 z n.0 n.1 (omega arith)))
      | inr n ↦ append_right z (filter (is_in_span i.lo i.last 0) vs) (filter (is_in_span j.lo j.last 0) vs) (filter_has (is_in_span j.lo j.last 0) z vs f.0 (in_span_from j.lo j.last 0 z n.0 n.1 (omega arith)))
    ])

-- the common members, by the words of either or by a range
pub kept_common : (b : Limits) (vs ws : List ℕ) (p : ℕ → Bool) → ((x : ℕ) → (p x ≡ true → Among x vs) × (Among x vs → p x ≡ true))
    → cover_if_any b (filter p ws) ≡ cover_if_any b (related_words Same vs ws)
unfolding related_words is_related
kept_common b vs ws p are =
    cover_some-same b (filter p ws) (filter (λ x. list_any (λ y. eqb x y) ws) vs)
    (λ z k.
    let f = among_filter p z ws k in
    filter_has (λ x. list_any (λ y. eqb x y) ws) z vs ((are z).0 f.1) (among_any (λ y. eqb z y) z ws f.0 (eq-eqb z z refl)))
    (λ z k.
    let f = among_filter (λ x. list_any (λ y. eqb x y) ws) z vs k in
    let r = any_among (λ y. eqb z y) ws f.1 in
    let e : z ≡ r.0 = eqb-true z r.0 r.2 in
    filter_has p z ws (subst (λ (y : ℕ). Among y ws) (sym e) r.1) ((are z).1 f.0))

pub kept_range : (b : Limits) (vs : List ℕ) (lo last s : ℕ) → s ≤ 2 → cover_if_any b (filter (is_in_span lo last s) vs) ≡ cover_if_any b (related_words Same vs (multiples_in_range lo last s))
unfolding related_words is_related
kept_range b vs lo last s small =
    cover_some-same b (filter (is_in_span lo last s) vs) (filter (λ x. list_any (λ y. eqb x y) (multiples_in_range lo last s)) vs)
    (λ z k.
    let f = among_filter (is_in_span lo last s) z vs k in
    let n = in_span_parts lo last s z f.1 in
    filter_has (λ x. list_any (λ y. eqb x y) (multiples_in_range lo last s)) z vs f.0 (among_any (λ y. eqb z y) z (multiples_in_range lo last s) (among_range z lo last s small n) (eq-eqb z z refl)))
    (λ z k.
    let f = among_filter (λ x. list_any (λ y. eqb x y) (multiples_in_range lo last s)) z vs k in
    let r = any_among (λ y. eqb z y) (multiples_in_range lo last s) f.1 in
    let e : z ≡ r.0 = eqb-true z r.0 r.2 in
    let m = range_among z lo last s small (subst (λ (y : ℕ). Among y (multiples_in_range lo last s)) (sym e) r.1) in
    filter_has (is_in_span lo last s) z vs f.0 (in_span_from lo last s z m.0 m.1 m.2))

abbrev pub no_words : Interval
no_words = record { lo = 1; last = 0 }

no_word : (x : ℕ) → 1 ≤ x → x ≤ 0 → ⊥
no_word x a b = omega arith

pub with_none : (P : Type 0) (i : Interval) (x : ℕ) → (IsInInterval i x → P) × (P → IsInInterval i x) → (IsInInterval i x ⊎ IsInInterval no_words x → P) × (P → IsInInterval i x ⊎ IsInInterval no_words x)
with_none P i x both = ((λ s. elim s [ inl j ↦ both.0 j | inr n ↦ absurd (no_word x n.0 n.1) ]), (λ p. inl (both.1 p)))
