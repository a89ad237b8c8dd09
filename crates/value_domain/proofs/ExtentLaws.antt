-- The bounds and the step of a set decide its cover, if the set is large.
use Rattle.std.proofs.Common.{◌≡◌, ℕ, ◌+◌, ◌-◌, ◌*◌, ◌/◌, ◌^◌, ◌<◌, ◌≤◌, ◌⊎◌, inl, inr, List, [], ◌∷◌, length, refl, sym, ap, ◌∙◌, subst, arith, min, max, ◌++◌}
use Rattle.std.proofs.Math.Nat.{mul-le-mul_right, mul-one}
use Rattle.std.proofs.lemmas.Bool.{cases_lt}
use Rattle.value_domain.specs.declared.values.Val.TheVariants.{Set, Span}
use Rattle.value_domain.specs.Sets.{Among, AreAmong, IsAscending, sorted_set_of, alignment_log2, least, greatest, step_of_set, IsExtent}
use Rattle.value_domain.specs.Limits.{Limits}
use Rattle.value_domain.specs.Floors.{floor, threshold_above}
use Rattle.value_domain.specs.Values.{IsMember, IsInLattice, IsBelow, cover, members, multiples_in_range, first_member_quotient, span_len}
use Rattle.value_domain.proofs.SetLaws.{rising_distinct, among_distinct, distinct_has, least_among, least_least, greatest_among, greatest_greatest, step_least, step_greatest, step_le, twos_le}
use Rattle.value_domain.proofs.CoverLaws.{cover-few, cover-many, cover_holds, cover_mono, cover_own, cover_step, cover-same, among_member, member_among, step_cases, from_units, in_units, multiples_among, among_multiples}

-- ---- two sets, each held by the cover of the other, have one cover
pub cover-squeeze : (b : Limits) (xs ys : List ℕ) → 1 ≤ length xs → 1 ≤ length ys
    → ((z : ℕ) → Among z xs → IsMember z (cover b ys)) → ((z : ℕ) → Among z ys → IsMember z (cover b xs)) → cover b xs ≡ cover b ys
cover-squeeze b xs ys some_x some_y there back =
    let up : IsBelow (cover b xs) (cover b ys) =
    λ z m. rw (cover_own b ys some_y) at (cover_mono b xs (members (cover b ys)) some_x (λ x i. among_member (cover b ys) x (cover_step b ys) (there x i)) z m)
    in
    let down : IsBelow (cover b ys) (cover b xs) =
    λ z m. rw (cover_own b xs some_x) at (cover_mono b ys (members (cover b xs)) some_y (λ x i. among_member (cover b xs) x (cover_step b xs) (back x i)) z m)
    in
    sym (cover_own b xs some_x)
    ∙ cover-same b (members (cover b xs)) (members (cover b ys))
    (λ z i. among_member (cover b ys) z (cover_step b ys) (up z (member_among (cover b xs) z (cover_step b xs) i)))
    (λ z i. among_member (cover b xs) z (cover_step b xs) (down z (member_among (cover b ys) z (cover_step b ys) i)))
    ∙ cover_own b ys some_y

-- ---- lists joined
pub among_append : (z : ℕ) (xs ys : List ℕ) → Among z (xs ++ ys) → Among z xs ⊎ Among z ys
among_append z [] ys i = inr i
among_append z (x ∷ xs) ys i =
    elim i [ inl e ↦ inl (inl e) | inr j ↦ elim (among_append z xs ys j) [ inl k ↦ inl (inr k) | inr k ↦ inr k ] ]

pub append_left : (z : ℕ) (xs ys : List ℕ) → Among z xs → Among z (xs ++ ys)
append_left z [] ys i = absurd i
append_left z (x ∷ xs) ys i = elim i [ inl e ↦ inl e | inr j ↦ inr (append_left z xs ys j) ]

pub append_right : (z : ℕ) (xs ys : List ℕ) → Among z ys → Among z (xs ++ ys)
append_right z [] ys i = i
append_right z (x ∷ xs) ys i = inr (append_right z xs ys i)

pub some_length : (xs : List ℕ) (z : ℕ) → Among z xs → 1 ≤ length xs
some_length [] z i = absurd i
some_length (x ∷ xs) z i = omega arith

-- the cover of a part can replace the part
pub cover-part : (b : Limits) (xs ys : List ℕ) → 1 ≤ length xs → cover b (members (cover b xs) ++ ys) ≡ cover b (xs ++ ys)
cover-part b xs ys some =
    let x : ℕ = least xs in
    let here : Among (least xs) xs = least_among xs some in
    let some_both : 1 ≤ length (xs ++ ys) = some_length (xs ++ ys) (least xs) (append_left (least xs) xs ys here) in
    let some_members : 1 ≤ length (members (cover b xs) ++ ys) =
    some_length (members (cover b xs) ++ ys) (least xs)
    (append_left (least xs) (members (cover b xs)) ys (among_member (cover b xs) (least xs) (cover_step b xs) (cover_holds b xs (least xs) here)))
    in
    cover-squeeze b (members (cover b xs) ++ ys) (xs ++ ys) some_members some_both
    (λ z i. elim (among_append z (members (cover b xs)) ys i) [
      | inl k ↦ cover_mono b xs (xs ++ ys) some (λ w j. append_left w xs ys j) z (member_among (cover b xs) z (cover_step b xs) k)
      | inr k ↦ cover_holds b (xs ++ ys) z (append_right z xs ys k)
    ])
    (λ z i. elim (among_append z xs ys i) [
      | inl k ↦
          cover_holds b (members (cover b xs) ++ ys) z
          (append_left z (members (cover b xs)) ys (among_member (cover b xs) z (cover_step b xs) (cover_holds b xs z k)))
      | inr k ↦ cover_holds b (members (cover b xs) ++ ys) z (append_right z (members (cover b xs)) ys k)
    ])

-- the bounds and the step of a set with one more number
pub cover-more : (b : Limits) (xs : List ℕ) (x : ℕ) → 1 ≤ length xs → cover b (x ∷ members (cover b xs)) ≡ cover b (xs ++ x ∷ [])
cover-more b xs x some =
    cover-same b (x ∷ members (cover b xs)) (members (cover b xs) ++ x ∷ [])
    (λ z i. elim i [ inl e ↦ append_right z (members (cover b xs)) (x ∷ []) (inl e) | inr j ↦ append_left z (members (cover b xs)) (x ∷ []) j ])
    (λ z i. elim (among_append z (members (cover b xs)) (x ∷ []) i) [ inl j ↦ inr j | inr j ↦ elim j [ inl e ↦ inl e | inr n ↦ absurd n ] ])
    ∙ cover-part b xs (x ∷ []) some

-- ---- extents
pub extent_rising : (ws : List ℕ) → IsAscending ws → 1 ≤ length ws → IsExtent ws (least ws) (greatest ws) (step_of_set ws)
extent_rising ws r some = record {
  low_in = least_among ws some;
  high_in = greatest_among ws some;
  low = least_least ws r;
  high = greatest_greatest ws;
  fits = step_least ws;
  small = step_le ws;
  full = step_greatest ws;
}

pub extent_same : {lo hi s : ℕ} (xs ys : List ℕ) → AreAmong xs ys → AreAmong ys xs → IsExtent xs lo hi s → IsExtent ys lo hi s
extent_same {lo} {hi} {s} xs ys there back e = record {
  low_in = there lo e.low_in;
  high_in = there hi e.high_in;
  low = λ z i. e.low z (back z i);
  high = λ z i. e.high z (back z i);
  fits = λ z i. e.fits z (back z i);
  small = e.small;
  full = λ t le each. e.full t le (λ z i. each z (there z i));
}

pub extent_only : {lo hi s lo2 hi2 s2 : ℕ} (xs : List ℕ) → IsExtent xs lo hi s → IsExtent xs lo2 hi2 s2 → (lo ≡ lo2) × (hi ≡ hi2) × (s ≡ s2)
extent_only {lo} {hi} {s} {lo2} {hi2} {s2} xs e f =
    let a : lo ≤ lo2 = e.low lo2 f.low_in in
    let b : lo2 ≤ lo = f.low lo e.low_in in
    let c : hi2 ≤ hi = e.high hi2 f.high_in in
    let d : hi ≤ hi2 = f.high hi e.high_in in
    let g : s2 ≤ s = e.full s2 f.small f.fits in
    let h : s ≤ s2 = f.full s e.small e.fits in
    (omega arith, omega arith, omega arith)

pub extent_distinct : {lo hi s : ℕ} (xs : List ℕ) → IsExtent xs lo hi s → IsExtent (sorted_set_of xs) lo hi s
extent_distinct xs e = extent_same xs (sorted_set_of xs) (λ z i. distinct_has z xs i) (λ z i. among_distinct z xs i) e

-- the cover of a large set
pub cover_span : {lo hi s : ℕ} (b : Limits) (xs : List ℕ) → b.most_words < length (sorted_set_of xs) → IsExtent xs lo hi s
    → cover b xs ≡ Span (floor b.thresholds lo) (threshold_above b.thresholds hi - 1) s
cover_span {lo} {hi} {s} b xs many e =
    let own = extent_only (sorted_set_of xs) (extent_rising (sorted_set_of xs) (rising_distinct xs) (omega arith)) (extent_distinct xs e) in
    rw (cover-many b xs many, own.0, own.1, own.2) refl

pub extent_append : {lo hi s lo2 hi2 s2 : ℕ} (xs ys : List ℕ) → IsExtent xs lo hi s → IsExtent ys lo2 hi2 s2
    → IsExtent (xs ++ ys) (min lo lo2) (max hi hi2) (min s s2)
extent_append {lo} {hi} {s} {lo2} {hi2} {s2} xs ys e f = record {
  low_in = elim (cases_lt lo lo2) [
    | inl h ↦ let m : lo ≡ min lo lo2 = omega arith in subst (λ (n : ℕ). Among n (xs ++ ys)) m (append_left lo xs ys e.low_in)
    | inr h ↦ let m : lo2 ≡ min lo lo2 = omega arith in subst (λ (n : ℕ). Among n (xs ++ ys)) m (append_right lo2 xs ys f.low_in)
  ];
  high_in = elim (cases_lt hi hi2) [
    | inl h ↦ let m : hi2 ≡ max hi hi2 = omega arith in subst (λ (n : ℕ). Among n (xs ++ ys)) m (append_right hi2 xs ys f.high_in)
    | inr h ↦ let m : hi ≡ max hi hi2 = omega arith in subst (λ (n : ℕ). Among n (xs ++ ys)) m (append_left hi xs ys e.high_in)
  ];
  low = λ z i. elim (among_append z xs ys i) [ inl j ↦ let o : lo ≤ z = e.low z j in omega arith | inr j ↦ let o : lo2 ≤ z = f.low z j in omega arith ];
  high = λ z i. elim (among_append z xs ys i) [ inl j ↦ let o : z ≤ hi = e.high z j in omega arith | inr j ↦ let o : z ≤ hi2 = f.high z j in omega arith ];
  fits = λ z i. elim (among_append z xs ys i) [ inl j ↦ let o : s ≤ alignment_log2 z = e.fits z j in omega arith | inr j ↦ let o : s2 ≤ alignment_log2 z = f.fits z j in omega arith ];
  small = let o : s ≤ 2 = e.small in omega arith;
  full = λ t le each.
      let a : t ≤ s = e.full t le (λ z i. each z (append_left z xs ys i)) in
      let b : t ≤ s2 = f.full t le (λ z i. each z (append_right z xs ys i)) in
      omega arith;
}

pub extent_one : (x : ℕ) → IsExtent (x ∷ []) x x (alignment_log2 x)
extent_one x = record {
  low_in = inl refl;
  high_in = inl refl;
  low = λ z i. elim i [ inl e ↦ let e2 : z ≡ x = e in omega arith | inr n ↦ absurd n ];
  high = λ z i. elim i [ inl e ↦ let e2 : z ≡ x = e in omega arith | inr n ↦ absurd n ];
  fits = λ z i. elim i [ inl e ↦ let e2 : z ≡ x = e in let e3 : alignment_log2 z ≡ alignment_log2 x = ap alignment_log2 e2 in omega arith | inr n ↦ absurd n ];
  small = twos_le x;
  full = λ t le each. each x (inl refl);
}

-- a range of two or more has these bounds, and its own step
next_unit : (s : ℕ) → s ≤ 2 → (t k : ℕ) → t ≤ 2 → t ≤ alignment_log2 (k * 2 ^ s) → t ≤ alignment_log2 ((k + 1) * 2 ^ s) → t ≤ s
next_unit =
    step_cases (λ s. (t k : ℕ) → t ≤ 2 → t ≤ alignment_log2 (k * 2 ^ s) → t ≤ alignment_log2 ((k + 1) * 2 ^ s) → t ≤ s)
    (λ t k le a b. odd_even t k (k + 1) le (rw mul-one at a) (rw mul-one at b) refl)
    (λ t k le a b. odd_even_2 t (k * 2) ((k + 1) * 2) le a b (omega arith))
    (λ t k le a b. le)
  where
    odd_even : (t x y : ℕ) → t ≤ 2 → t ≤ alignment_log2 x → t ≤ alignment_log2 y → y ≡ x + 1 → t ≤ 0
    odd_even t x y le a b e =
        elim (cases_lt 0 t) [
          | inl h ↦
              let p : x ≡ x / 2 ^ 1 * 2 ^ 1 = in_units 1 (omega arith) x (omega arith) in
              let q : y ≡ y / 2 ^ 1 * 2 ^ 1 = in_units 1 (omega arith) y (omega arith) in
              absurd (omega arith)
          | inr h ↦ h
        ]

    odd_even_2 : (t x y : ℕ) → t ≤ 2 → t ≤ alignment_log2 x → t ≤ alignment_log2 y → y ≡ x + 2 → t ≤ 1
    odd_even_2 t x y le a b e =
        elim (cases_lt 1 t) [
          | inl h ↦
              let p : x ≡ x / 2 ^ 2 * 2 ^ 2 = in_units 2 (omega arith) x (omega arith) in
              let q : y ≡ y / 2 ^ 2 * 2 ^ 2 = in_units 2 (omega arith) y (omega arith) in
              absurd (omega arith)
          | inr h ↦ h
        ]

pub extent_range : (lo last s : ℕ) → s ≤ 2 → 2 ≤ span_len lo last s → IsExtent (multiples_in_range lo last s) (first_member_quotient lo s * 2 ^ s) (last / 2 ^ s * 2 ^ s) s
extent_range lo last s small two = record {
  low_in = among_multiples (first_member_quotient lo s) (span_len lo last s) (first_member_quotient lo s) (2 ^ s) (omega arith) (omega arith);
  high_in = among_multiples (last / 2 ^ s) (span_len lo last s) (first_member_quotient lo s) (2 ^ s) (omega arith) (omega arith);
  low = λ z i.
      let k = multiples_among z (span_len lo last s) (first_member_quotient lo s) (2 ^ s) i in
      let e : z ≡ k.0 * 2 ^ s = k.3 in
      omega (arith, mul-le-mul_right (2 ^ s) k.1);
  high = λ z i.
      let k = multiples_among z (span_len lo last s) (first_member_quotient lo s) (2 ^ s) i in
      let e : z ≡ k.0 * 2 ^ s = k.3 in
      let at_most : k.0 ≤ last / 2 ^ s = omega arith in
      omega (arith, mul-le-mul_right (2 ^ s) at_most);
  fits = λ z i.
      let k = multiples_among z (span_len lo last s) (first_member_quotient lo s) (2 ^ s) i in
      from_units s small k.0 z k.3;
  small = small;
  full = λ t le each.
      next_unit s small t (first_member_quotient lo s) le
      (each (first_member_quotient lo s * 2 ^ s) (among_multiples (first_member_quotient lo s) (span_len lo last s) (first_member_quotient lo s) (2 ^ s) (omega arith) (omega arith)))
      (each ((first_member_quotient lo s + 1) * 2 ^ s) (among_multiples (first_member_quotient lo s + 1) (span_len lo last s) (first_member_quotient lo s) (2 ^ s) (omega arith) (omega arith)));
}

-- a Span that is a value has more members than a Set may have
pub many_span : (b : Limits) (lo last s : ℕ) → IsInLattice b (Span lo last s) → b.most_words < length (sorted_set_of (multiples_in_range lo last s))
many_span b lo last s value =
    elim (cases_lt b.most_words (length (sorted_set_of (multiples_in_range lo last s)))) [
      | inl many ↦ many
      | inr few ↦
          let e : Set (sorted_set_of (multiples_in_range lo last s)) ≡ Span lo last s = sym (cover-few b (multiples_in_range lo last s) few) ∙ value.own in
          cc
    ]
