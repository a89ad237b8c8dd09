-- The signed order of words.
use Rattle.std.proofs.Common.{◌≡◌, ℕ, ◌+◌, ◌-◌, ◌*◌, ◌%◌, ◌^◌, ◌<◌, ◌≤◌, ◌⊎◌, inl, inr, true, false, not, List, [], ◌∷◌, ◌++◌, length, refl, sym, ◌∙◌, subst, arith, take, get_or, leb, ltb, eqb}
use Rattle.std.specs.List.{filter, list_any}
use Rattle.std.proofs.lemmas.Bool.{cases_lt, cases_order, leb-true, le-leb, ltb-true, lt-ltb, eqb-false, ne_eqb, not-true, not_from_false}
use Rattle.std.proofs.lemmas.List.{take_more}
use Rattle.value_domain.specs.declared.values.Val.TheVariants.{Span}
use Rattle.value_domain.specs.Sets.{Among, alignment_log2, IsExtent}
use Rattle.value_domain.specs.Limits.{Limits}
use Rattle.value_domain.specs.Values.{IsWellFormed, multiples_in_range, is_in_span}
use Rattle.value_domain.proofs.CoverLaws.{range_among, among_range, step_cases, from_units, in_units}
use Rattle.value_domain.proofs.ExtentLaws.{among_append, append_left, append_right}
use Rattle.value_domain.specs.Meets.{cover_if_any}
use Rattle.tc_isa.specs.Arithmetic.{signed_rank}
use Rattle.vd_transfer.specs.Relations.{is_related, MayBeRelated}
use Rattle.vd_transfer.specs.Intervals.{IsInInterval}
use Rattle.vd_transfer.specs.Signs.{IsSignedRange, signed_related_words}
use Rattle.vd_transfer.specs.declared.refinement.Relation.{Relation}
use Rattle.vd_transfer.specs.declared.refinement.Relation.TheVariants.{Same, Other, Less, AtLeast, More, AtMost}
use Rattle.vd_transfer.specs.declared.refinement.Interval.{Interval}
use Rattle.vd_transfer.proofs.Steps.{twos_sub}
use Rattle.value_domain.proofs.MeetLaws.{cover_some-same, any_among, among_any, among_filter, filter_has, in_span_parts, in_span_from}

-- ---- the ends of a set that is written out
pub ends_more : (ws : List ℕ) (i x low high low2 high2 : ℕ) → i < length ws → x ≡ get_or ws i 0 → Among x ws → Among low ws → Among high ws
    → ((z : ℕ) → Among z (take i ws) → (signed_rank low ≤ signed_rank z) × (signed_rank z ≤ signed_rank high))
    → (low2 ≡ x) ⊎ (low2 ≡ low) → signed_rank low2 ≤ signed_rank x → signed_rank low2 ≤ signed_rank low
    → (high2 ≡ x) ⊎ (high2 ≡ high) → signed_rank x ≤ signed_rank high2 → signed_rank high ≤ signed_rank high2
    → Among low2 ws × Among high2 ws × ((z : ℕ) → Among z (take (i + 1) ws) → (signed_rank low2 ≤ signed_rank z) × (signed_rank z ≤ signed_rank high2))
ends_more ws i x low high low2 high2 h e here in_low in_high inv either_low la lb either_high ha hb = (
  elim either_low [ inl f ↦ subst (λ (n : ℕ). Among n ws) (sym f) here | inr f ↦ subst (λ (n : ℕ). Among n ws) (sym f) in_low ],
  elim either_high [ inl f ↦ subst (λ (n : ℕ). Among n ws) (sym f) here | inr f ↦ subst (λ (n : ℕ). Among n ws) (sym f) in_high ],
  (λ z k. elim (among_append z (take i ws) (get_or ws i 0 ∷ []) (rw (take_more ws i 0 h) at k)) [
    | inl j ↦ let b = inv z j in (omega (arith, b.0), omega (arith, b.1))
    | inr j ↦ elim j [
      | inl f ↦ let g : z ≡ x = f ∙ sym e in subst (λ (n : ℕ). (signed_rank low2 ≤ signed_rank n) × (signed_rank n ≤ signed_rank high2)) (sym g) (la, ha)
      | inr n ↦ absurd n
    ]
  ]),
)

-- ---- the ends of a Span
half_fits : (s : ℕ) → s ≤ 2 → s ≤ alignment_log2 (2 ^ 31)
half_fits = step_cases (λ s. s ≤ alignment_log2 (2 ^ 31)) (omega arith) (from_units 1 (omega arith) (2 ^ 30) (2 ^ 31) refl) (from_units 2 (omega arith) (2 ^ 29) (2 ^ 31) refl)

unit_fits : (s : ℕ) → s ≤ 2 → s ≤ alignment_log2 (2 ^ s)
unit_fits = step_cases (λ s. s ≤ alignment_log2 (2 ^ s)) (omega arith) (from_units 1 (omega arith) 1 2 refl) (from_units 2 (omega arith) 1 4 refl)

-- the last multiple below the half
before_half : (s : ℕ) → s ≤ 2 → (z : ℕ) → s ≤ alignment_log2 z → z < 2 ^ 31 → z ≤ 2 ^ 31 - 2 ^ s
before_half =
    step_cases (λ s. (z : ℕ) → s ≤ alignment_log2 z → z < 2 ^ 31 → z ≤ 2 ^ 31 - 2 ^ s)
    (λ z f h. omega arith)
    (λ z f h. let a = in_units 1 (omega arith) z f in omega arith)
    (λ z f h. let a = in_units 2 (omega arith) z f in omega arith)

unit_small : (s : ℕ) → s ≤ 2 → (2 ^ s ≤ 4) × (1 ≤ 2 ^ s)
unit_small = step_cases (λ s. (2 ^ s ≤ 4) × (1 ≤ 2 ^ s)) (omega arith, omega arith) (omega arith, omega arith) (omega arith, omega arith)

pub across : {least greatest t : ℕ} (lo last s : ℕ) → IsWellFormed (Span lo last s) → IsExtent (multiples_in_range lo last s) least greatest t → least < 2 ^ 31 → 2 ^ 31 ≤ greatest
    → IsSignedRange (multiples_in_range lo last s) (2 ^ 31) (2 ^ 31 - 2 ^ s)
across {least} {greatest} lo last s well e low high =
    let first = range_among least lo last s well.0 e.low_in in
    let end = range_among greatest lo last s well.0 e.high_in in
    let unit = unit_small s well.0 in
    let under : least ≤ 2 ^ 31 - 2 ^ s = before_half s well.0 least first.2 low in
    record {
      low_in = among_range (2 ^ 31) lo last s well.0 (omega (arith, first.0), omega (arith, end.1), half_fits s well.0);
      high_in = among_range (2 ^ 31 - 2 ^ s) lo last s well.0 (omega (arith, first.0), omega (arith, end.1), twos_sub s well.0 (2 ^ 31) (2 ^ s) (half_fits s well.0) (unit_fits s well.0));
      low_is = λ z i. omega arith;
      high_is = λ z i.
          let m = range_among z lo last s well.0 i in
          elim (cases_lt z (2 ^ 31)) [
            | inl below ↦ let b = before_half s well.0 z m.2 below in omega (arith, unit.0, unit.1)
            | inr past ↦ omega (arith, m.1, well.2, unit.0, unit.1)
          ];
    }

pub aside : {least greatest t : ℕ} (lo last s : ℕ) → IsWellFormed (Span lo last s) → IsExtent (multiples_in_range lo last s) least greatest t → (greatest < 2 ^ 31) ⊎ (2 ^ 31 ≤ least)
    → IsSignedRange (multiples_in_range lo last s) least greatest
aside {least} {greatest} lo last s well e side = record {
  low_in = e.low_in;
  high_in = e.high_in;
  low_is = λ z i. ordered z i (e.low z i) (e.high z i) (range_among z lo last s well.0 i).1 (range_among greatest lo last s well.0 e.high_in).1;
  high_is = λ z i. ordered_2 z i (e.low z i) (e.high z i) (range_among greatest lo last s well.0 e.high_in).1;
}
  where
    ordered : (z : ℕ) → Among z (multiples_in_range lo last s) → least ≤ z → z ≤ greatest → z ≤ last → greatest ≤ last → signed_rank least ≤ signed_rank z
    ordered z i a b c d = elim side [ inl below ↦ omega arith | inr past ↦ omega (arith, well.2) ]

    ordered_2 : (z : ℕ) → Among z (multiples_in_range lo last s) → least ≤ z → z ≤ greatest → greatest ≤ last → signed_rank z ≤ signed_rank greatest
    ordered_2 z i a b d = elim side [ inl below ↦ omega arith | inr past ↦ omega (arith, well.2) ]

-- ---- some word of a set in a relation
pub reaches_signed : (rel : Relation) (x low high : ℕ) (ws : List ℕ) → (rel ≡ Same → ⊥) → IsSignedRange ws low high
    → (list_any (λ y. is_related rel (signed_rank x) (signed_rank y)) ws ≡ true → MayBeRelated rel (signed_rank low) (signed_rank high) (signed_rank x))
    × (MayBeRelated rel (signed_rank low) (signed_rank high) (signed_rank x) → list_any (λ y. is_related rel (signed_rank x) (signed_rank y)) ws ≡ true)
unfolding is_related MayBeRelated
reaches_signed Same x low high ws order e = absurd (order refl)
reaches_signed Other x low high ws order e = (
  (λ t.
      let r = any_among (λ y. not (eqb (signed_rank x) (signed_rank y))) ws t in
      let ne : eqb (signed_rank x) (signed_rank r.0) ≡ false = not-true (eqb (signed_rank x) (signed_rank r.0)) r.2 in
      elim (cases_order (signed_rank x) (signed_rank r.0)) [
        | inl same ↦ absurd (eqb-false (signed_rank x) (signed_rank r.0) ne same)
        | inr (inl lt) ↦ let m : signed_rank r.0 ≤ signed_rank high = e.high_is r.0 r.1 in inl (le_lt (signed_rank x) (signed_rank r.0) (signed_rank high) lt m)
        | inr (inr gt) ↦ let m : signed_rank low ≤ signed_rank r.0 = e.low_is r.0 r.1 in inr (lt_le (signed_rank low) (signed_rank r.0) (signed_rank x) m gt)
      ]),
  (λ r. elim r [
    | inl lt ↦ among_any (λ y. not (eqb (signed_rank x) (signed_rank y))) high ws e.high_in (not_from_false (eqb (signed_rank x) (signed_rank high)) (ne_eqb (signed_rank x) (signed_rank high) (λ f. apart (signed_rank x) (signed_rank high) lt f)))
    | inr gt ↦ among_any (λ y. not (eqb (signed_rank x) (signed_rank y))) low ws e.low_in (not_from_false (eqb (signed_rank x) (signed_rank low)) (ne_eqb (signed_rank x) (signed_rank low) (λ f. apart (signed_rank low) (signed_rank x) gt (sym f))))
  ]),
)
  where
    le_lt : (a b c : ℕ) → a < b → b ≤ c → a < c
    le_lt a b c h k = omega arith

    lt_le : (a b c : ℕ) → a ≤ b → b < c → a < c
    lt_le a b c h k = omega arith

    apart : (a b : ℕ) → a < b → a ≡ b → ⊥
    apart a b h e = omega arith
reaches_signed Less x low high ws order e = (
  (λ t. let r = any_among (λ y. ltb (signed_rank x) (signed_rank y)) ws t in lt_then_le (signed_rank x) (signed_rank r.0) (signed_rank high) (ltb-true (signed_rank x) (signed_rank r.0) r.2) (e.high_is r.0 r.1)),
  (λ r. among_any (λ y. ltb (signed_rank x) (signed_rank y)) high ws e.high_in (lt-ltb (signed_rank x) (signed_rank high) r)),
)
  where
    lt_then_le : (a b c : ℕ) → a < b → b ≤ c → a < c
    lt_then_le a b c h k = omega arith
reaches_signed AtLeast x low high ws order e = (
  (λ t. let r = any_among (λ y. leb (signed_rank y) (signed_rank x)) ws t in le_then_le (signed_rank low) (signed_rank r.0) (signed_rank x) (e.low_is r.0 r.1) (leb-true (signed_rank r.0) (signed_rank x) r.2)),
  (λ r. among_any (λ y. leb (signed_rank y) (signed_rank x)) low ws e.low_in (le-leb (signed_rank low) (signed_rank x) r)),
)
  where
    le_then_le : (a b c : ℕ) → a ≤ b → b ≤ c → a ≤ c
    le_then_le a b c h k = omega arith
reaches_signed More x low high ws order e = (
  (λ t. let r = any_among (λ y. ltb (signed_rank y) (signed_rank x)) ws t in le_then_lt (signed_rank low) (signed_rank r.0) (signed_rank x) (e.low_is r.0 r.1) (ltb-true (signed_rank r.0) (signed_rank x) r.2)),
  (λ r. among_any (λ y. ltb (signed_rank y) (signed_rank x)) low ws e.low_in (lt-ltb (signed_rank low) (signed_rank x) r)),
)
  where
    le_then_lt : (a b c : ℕ) → a ≤ b → b < c → a < c
    le_then_lt a b c h k = omega arith
reaches_signed AtMost x low high ws order e = (
  (λ t. let r = any_among (λ y. leb (signed_rank x) (signed_rank y)) ws t in le_twice (signed_rank x) (signed_rank r.0) (signed_rank high) (leb-true (signed_rank x) (signed_rank r.0) r.2) (e.high_is r.0 r.1)),
  (λ r. among_any (λ y. leb (signed_rank x) (signed_rank y)) high ws e.high_in (le-leb (signed_rank x) (signed_rank high) r)),
)
  where
    le_twice : (a b c : ℕ) → a ≤ b → b ≤ c → a ≤ c
    le_twice a b c h k = omega arith

abbrev pub part : Interval → List ℕ → List ℕ
part i vs = filter (is_in_span i.lo i.last 0) vs

part_is : (i : Interval) (vs : List ℕ) (z : ℕ) → (Among z (part i vs) → Among z vs × IsInInterval i z) × (Among z vs → IsInInterval i z → Among z (part i vs))
part_is i vs z = (
  (λ k. let f = among_filter (is_in_span i.lo i.last 0) z vs k in let n = in_span_parts i.lo i.last 0 z f.1 in (f.0, (n.0, n.1))),
  (λ k n. filter_has (is_in_span i.lo i.last 0) z vs k (in_span_from i.lo i.last 0 z n.0 n.1 (omega arith))),
)

-- the members of four intervals
pub kept_parts : (b : Limits) (rel : Relation) (vs ws : List ℕ) (i j i1 i2 j1 j2 : Interval) (low high : ℕ) → (rel ≡ Same → ⊥) → IsSignedRange ws low high
    → ((x : ℕ) → Among x vs → x < 2 ^ 32)
    → ((x : ℕ) → x < 2 ^ 32 → (IsInInterval i x ⊎ IsInInterval j x → MayBeRelated rel (signed_rank low) (signed_rank high) x) × (MayBeRelated rel (signed_rank low) (signed_rank high) x → IsInInterval i x ⊎ IsInInterval j x))
    → ((x : ℕ) → x < 2 ^ 32 → (IsInInterval i1 x ⊎ IsInInterval i2 x → IsInInterval i (signed_rank x)) × (IsInInterval i (signed_rank x) → IsInInterval i1 x ⊎ IsInInterval i2 x))
    → ((x : ℕ) → x < 2 ^ 32 → (IsInInterval j1 x ⊎ IsInInterval j2 x → IsInInterval j (signed_rank x)) × (IsInInterval j (signed_rank x) → IsInInterval j1 x ⊎ IsInInterval j2 x))
    → cover_if_any b ((part i1 vs ++ part i2 vs) ++ (part j1 vs ++ part j2 vs)) ≡ cover_if_any b (signed_related_words rel vs ws)
unfolding signed_related_words
kept_parts b rel vs ws i j i1 i2 j1 j2 low high order e small are first second =
    cover_some-same b ((part i1 vs ++ part i2 vs) ++ (part j1 vs ++ part j2 vs)) (filter (λ x. list_any (λ y. is_related rel (signed_rank x) (signed_rank y)) ws) vs)
    (λ z k. elim (among_append z (part i1 vs ++ part i2 vs) (part j1 vs ++ part j2 vs) k) [
      | inl l ↦ elim (among_append z (part i1 vs) (part i2 vs) l) [
        | inl m ↦ let p = (part_is i1 vs z).0 m in in_kept z p.0 (inl ((first z (small z p.0)).0 (inl p.1)))
        | inr m ↦ let p = (part_is i2 vs z).0 m in in_kept z p.0 (inl ((first z (small z p.0)).0 (inr p.1)))
      ]
      | inr l ↦ elim (among_append z (part j1 vs) (part j2 vs) l) [
        | inl m ↦ let p = (part_is j1 vs z).0 m in in_kept z p.0 (inr ((second z (small z p.0)).0 (inl p.1)))
        | inr m ↦ let p = (part_is j2 vs z).0 m in in_kept z p.0 (inr ((second z (small z p.0)).0 (inr p.1)))
      ]
    ])
    (λ z k.
    let f = among_filter (λ x. list_any (λ y. is_related rel (signed_rank x) (signed_rank y)) ws) z vs k in
    elim ((are (signed_rank z) (signed_word z)).1 ((reaches_signed rel z low high ws order e).0 f.1)) [
      | inl n ↦ append_left z (part i1 vs ++ part i2 vs) (part j1 vs ++ part j2 vs)
          (elim ((first z (small z f.0)).1 n) [ inl m ↦ append_left z (part i1 vs) (part i2 vs) ((part_is i1 vs z).1 f.0 m) | inr m ↦ append_right z (part i1 vs) (part i2 vs) ((part_is i2 vs z).1 f.0 m) ])
      | inr n ↦ append_right z (part i1 vs ++ part i2 vs) (part j1 vs ++ part j2 vs)
          (elim ((second z (small z f.0)).1 n) [ inl m ↦ append_left z (part j1 vs) (part j2 vs) ((part_is j1 vs z).1 f.0 m) | inr m ↦ append_right z (part j1 vs) (part j2 vs) ((part_is j2 vs z).1 f.0 m) ])
    ])
  where
    signed_word : (z : ℕ) → signed_rank z < 2 ^ 32
    signed_word z = omega arith

    in_kept : (z : ℕ) → Among z vs → IsInInterval i (signed_rank z) ⊎ IsInInterval j (signed_rank z) → Among z (filter (λ x. list_any (λ y. is_related rel (signed_rank x) (signed_rank y)) ws) vs)
    in_kept z k s = filter_has (λ x. list_any (λ y. is_related rel (signed_rank x) (signed_rank y)) ws) z vs k ((reaches_signed rel z low high ws order e).1 ((are (signed_rank z) (signed_word z)).0 s))

pub unit_shift_32 : (s : ℕ) → s ≤ 2 → 1 * 2 ^ s % 2 ^ 32 ≡ 2 ^ s
unit_shift_32 = step_cases (λ s. 1 * 2 ^ s % 2 ^ 32 ≡ 2 ^ s) refl refl refl
