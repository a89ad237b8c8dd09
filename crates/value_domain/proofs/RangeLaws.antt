-- Ranges, and the Spans that are values.
use Rattle.std.proofs.Common.{◌≡◌, ℕ, zero, suc, ◌+◌, ◌-◌, ◌*◌, ◌/◌, ◌%◌, ◌^◌, ◌<◌, ◌≤◌, inl, inr, List, [], ◌∷◌, ◌++◌, length, refl, sym, ap, ◌∙◌, subst, arith, min, max, take, get_or, append_assoc, length-append}
use Rattle.std.proofs.lemmas.Bool.{cases_lt}
use Rattle.std.proofs.lemmas.List.{take_more}
use Rattle.value_domain.specs.declared.values.Val.{Val}
use Rattle.value_domain.specs.declared.values.Val.TheVariants.{Set, Span}
use Rattle.value_domain.specs.Sets.{Among, AreAmong, IsAscending, AreSetWords, sorted_set_of, multiples, IsExtent}
use Rattle.value_domain.specs.Limits.{Limits, AreLimits}
use Rattle.value_domain.specs.Floors.{floor, threshold_above}
use Rattle.value_domain.specs.Values.{IsWellFormed, IsInLattice, IsBelow, cover, value_of_words, members, multiples_in_range, first_member_quotient, span_len, any_val}
use Rattle.value_domain.proofs.SetLaws.{distinct-rising, length-distinct}
use Rattle.value_domain.proofs.CoverLaws.{cover-few, cover-many, span_of, cover-same, cover_least, among_member, member_among, has_step, multiples_among, among_multiples, rising_multiples, length-multiples, unit_some, step_cases}
use Rattle.value_domain.proofs.LimitLaws.{floor_le, above_lt, above_le}
use Rattle.value_domain.proofs.ExtentLaws.{cover_span, extent_append, many_span, some_length, cover-more, among_append, append_left, append_right, extent_range, extent_only}
use Rattle.value_domain.proofs.Loops.{among_get}

pub within_range : (lo last s : ℕ) (ws : List ℕ) → ((j : ℕ) → first_member_quotient lo s ≤ j → j < last / 2 ^ s + 1 → Among (j * 2 ^ s) ws) → AreAmong (multiples_in_range lo last s) ws
within_range lo last s ws each z i =
    let k = multiples_among z (span_len lo last s) (first_member_quotient lo s) (2 ^ s) i in
    let e : z ≡ k.0 * 2 ^ s = k.3 in
    subst (λ (y : ℕ). Among y ws) (sym e) (each k.0 k.1 (omega arith))

pub range_has : (lo last s k : ℕ) → first_member_quotient lo s ≤ k → k < last / 2 ^ s + 1 → Among (k * 2 ^ s) (multiples_in_range lo last s)
range_has lo last s k low high = among_multiples k (span_len lo last s) (first_member_quotient lo s) (2 ^ s) low (omega arith)

pub multiples-more : (n start unit : ℕ) → multiples (n + 1) start unit ≡ multiples n start unit ++ (start + n) * unit ∷ []
unfolding multiples
multiples-more zero start unit = let e : start ≡ start + 0 = omega arith in ap (λ k. k * unit ∷ []) e
multiples-more (suc n) start unit =
    let e : suc n + 1 ≡ suc (n + 1) = omega arith in
    let f : start + 1 + n ≡ start + suc n = omega arith in
    ap (λ k. multiples k start unit) e
    ∙ ap (λ (l : List ℕ). start * unit ∷ l) (multiples-more n (start + 1) unit ∙ ap (λ k. multiples n (start + 1) unit ++ k * unit ∷ []) f)

pub members_below : (v : Val) → IsWellFormed v → (z : ℕ) → Among z (members v) → z < 2 ^ 32
members_below (Set ws) w z i = w.below z i
members_below (Span lo last step) w z i = let m = member_among (Span lo last step) z w.0 i in omega (arith, m.1, w.2)

pub cover_value : (b : Limits) (xs : List ℕ) (x : ℕ) → AreLimits b → Among x xs → ((z : ℕ) → Among z xs → z < 2 ^ 32) → IsInLattice b (cover b xs)
cover_value b xs x limits i below = (cover_least b xs limits (record { some = some_length xs x i; below = below })).value

pub more_value : (b : Limits) (v : Val) (x : ℕ) → AreLimits b → IsInLattice b v → x < 2 ^ 32 → IsInLattice b (cover b (x ∷ members v))
more_value b v x limits value small =
    cover_value b (x ∷ members v) x limits (inl refl)
    (λ z i. elim i [ inl e ↦ let e2 : z ≡ x = e in omega arith | inr j ↦ members_below v value.well z j ])

-- a value has a member
pub some_members : (v : Val) → IsWellFormed v → 1 ≤ length (members v)
some_members (Set ws) w = w.some
some_members (Span lo last step) w = omega (arith, length-multiples (span_len lo last step) (first_member_quotient lo step) (2 ^ step), w.1)

pub join_value : (b : Limits) (v w : Val) → AreLimits b → IsInLattice b v → IsInLattice b w → IsInLattice b (cover b (members v ++ members w))
join_value b v w limits vv vw =
    (cover_least b (members v ++ members w) limits (record {
      some = omega (arith, length-append (members v) (members w), some_members v vv.well);
      below = λ z i. elim (among_append z (members v) (members w) i) [ inl j ↦ members_below v vv.well z j | inr j ↦ members_below w vw.well z j ];
    })).value

-- ---- the words of a list, one after another
pub words_none : (b : Limits) (v : Val) (words : List ℕ) → IsInLattice b v → v ≡ cover b (members v ++ take 0 words)
words_none b v words value =
    sym value.own
    ∙ cover-same b (members v) (members v ++ take 0 words)
    (λ z i. append_left z (members v) (take 0 words) i)
    (λ z i. elim (among_append z (members v) (take 0 words) i) [ inl j ↦ j | inr j ↦ absurd (none words z j) ])
  where
    none : (words : List ℕ) (z : ℕ) → Among z (take 0 words) → ⊥
    none [] z i = i
    none (w ∷ ws) z i = i

pub words_more : (b : Limits) (v out : Val) (words : List ℕ) (i : ℕ) → IsWellFormed v → i < length words → out ≡ cover b (members v ++ take i words)
    → cover b (get_or words i 0 ∷ members out) ≡ cover b (members v ++ take (i + 1) words)
words_more b v out words i well h e =
    ap (λ (o : Val). cover b (get_or words i 0 ∷ members o)) e
    ∙ cover-more b (members v ++ take i words) (get_or words i 0) (omega (arith, length-append (members v) (take i words), some_members v well))
    ∙ ap (cover b) (append_assoc (members v) (take i words) (get_or words i 0 ∷ []) ∙ ap (λ (l : List ℕ). members v ++ l) (sym (take_more words i 0 h)))

-- ---- Spans
pub many_range : (b : Limits) (lo last s : ℕ) → b.most_words < span_len lo last s → b.most_words < length (sorted_set_of (multiples_in_range lo last s))
many_range b lo last s many =
    let r = distinct-rising (multiples_in_range lo last s) (rising_multiples (span_len lo last s) (first_member_quotient lo s) (2 ^ s) (unit_some s)) in
    rw r (omega (arith, length-multiples (span_len lo last s) (first_member_quotient lo s) (2 ^ s)))

pub span_value : {least greatest s2 : ℕ} (b : Limits) (lo last s : ℕ) → AreLimits b → s ≤ 2 → last < 2 ^ 32 → b.most_words < span_len lo last s → IsExtent (multiples_in_range lo last s) least greatest s2
    → lo ≡ floor b.thresholds least → last ≡ threshold_above b.thresholds greatest - 1 → IsInLattice b (Span lo last s)
span_value {least} {greatest} {s2} b lo last s limits small below many e low high =
    let step : s2 ≡ s = (extent_only (multiples_in_range lo last s) e (extent_range lo last s small (omega (arith, limits.wide)))).2 in
    record {
      well = (small, omega (arith, limits.wide), below);
      own =
          cover_span b (multiples_in_range lo last s) (many_range b lo last s many) e
          ∙ ap (λ n. Span n (threshold_above b.thresholds greatest - 1) s2) (sym low)
          ∙ ap (λ n. Span lo n s2) (sym high)
          ∙ ap (λ n. Span lo last n) step;
    }

pub value_span : {least greatest s2 : ℕ} (b : Limits) (lo last s : ℕ) → IsInLattice b (Span lo last s) → IsExtent (multiples_in_range lo last s) least greatest s2
    → (lo ≡ floor b.thresholds least) × (last ≡ threshold_above b.thresholds greatest - 1)
value_span {least} {greatest} {s2} b lo last s value e =
    let same : Span (floor b.thresholds least) (threshold_above b.thresholds greatest - 1) s2 ≡ Span lo last s =
    sym (cover_span b (multiples_in_range lo last s) (many_span b lo last s value) e) ∙ value.own
    in
    (cc, cc)

pub span_count : (b : Limits) (lo last s : ℕ) → IsInLattice b (Span lo last s) → b.most_words < span_len lo last s
span_count b lo last s value =
    let r = distinct-rising (multiples_in_range lo last s) (rising_multiples (span_len lo last s) (first_member_quotient lo s) (2 ^ s) (unit_some s)) in
    let m : b.most_words < length (multiples_in_range lo last s) = rw r at (many_span b lo last s value) in
    omega (arith, length-multiples (span_len lo last s) (first_member_quotient lo s) (2 ^ s))

pub cover_join_span : {lo1 hi1 s1 lo2 hi2 s2 : ℕ} (b : Limits) (xs : List ℕ) (lo last s : ℕ) → IsInLattice b (Span lo last s) → IsExtent xs lo1 hi1 s1 → IsExtent (multiples_in_range lo last s) lo2 hi2 s2
    → Span (floor b.thresholds (min lo1 lo2)) (threshold_above b.thresholds (max hi1 hi2) - 1) (min s1 s2) ≡ cover b (xs ++ multiples_in_range lo last s)
cover_join_span b xs lo last s value e f =
    sym (cover_span b (xs ++ multiples_in_range lo last s)
    (omega (arith, many_span b lo last s value, length-distinct (multiples_in_range lo last s) (xs ++ multiples_in_range lo last s) (λ z i. append_right z xs (multiples_in_range lo last s) i)))
    (extent_append xs (multiples_in_range lo last s) e f))

-- ---- inclusion in a Span
pub below_span : {lo hi s : ℕ} (v : Val) (lo2 last2 s2 : ℕ) → IsWellFormed v → s2 ≤ 2 → IsExtent (members v) lo hi s
    → (lo2 ≤ lo → hi ≤ last2 → s2 ≤ s → IsBelow v (Span lo2 last2 s2)) × (IsBelow v (Span lo2 last2 s2) → (lo2 ≤ lo) × (hi ≤ last2) × (s2 ≤ s))
below_span {lo} {hi} {s} v lo2 last2 s2 well small e = (
  (λ a b c z m.
      let i = among_member v z (has_step v well) m in
      (omega (arith, e.low z i), omega (arith, e.high z i), omega (arith, e.fits z i))),
  (λ below. (
    (below lo (member_among v lo (has_step v well) e.low_in)).0,
    (below hi (member_among v hi (has_step v well) e.high_in)).1,
    e.full s2 small (λ z i. (below z (member_among v z (has_step v well) i)).2),
  )),
)

pub unit_shift : (s : ℕ) → s ≤ 2 → 1 * 2 ^ s % 2 ^ 64 ≡ 2 ^ s
unit_shift = step_cases (λ s. 1 * 2 ^ s % 2 ^ 64 ≡ 2 ^ s) refl refl refl

pub range_value : (b : Limits) (lo last s : ℕ) → AreLimits b → s ≤ 2 → 1 ≤ span_len lo last s → last < 2 ^ 32 → IsInLattice b (cover b (multiples_in_range lo last s))
range_value b lo last s limits small some below =
    (cover_least b (multiples_in_range lo last s) limits (record {
      some = omega (arith, length-multiples (span_len lo last s) (first_member_quotient lo s) (2 ^ s));
      below = λ z i. let m = member_among (Span lo last s) z small i in omega (arith, m.1);
    })).value

-- a Set is a value of its width
pub set_value : (b : Limits) (ws : List ℕ) → AreSetWords ws → (length ws ≤ b.most_words → IsInLattice b (Set ws)) × (IsInLattice b (Set ws) → length ws ≤ b.most_words)
set_value b ws a =
    let d = distinct-rising ws a.rising in (
      (λ few. record { well = a; own = cover-few b ws (rw d few) ∙ ap (λ (l : List ℕ). Set l) d }),
      (λ value.
          elim (cases_lt b.most_words (length ws)) [
            | inl many ↦
                let e = sym (cover-many b ws (rw d many)) ∙ value.own in
                absurd (set_span ws (sorted_set_of ws) b e)
            | inr few ↦ few
          ]),
    )
  where
    set_span : (ws vs : List ℕ) (b : Limits) → span_of b vs ≡ Set ws → ⊥
    set_span ws vs b e = cc

pub one_value : (b : Limits) (x : ℕ) → AreLimits b → x < 2 ^ 32 → IsInLattice b (Set (x ∷ []))
one_value b x limits small =
    (set_value b (x ∷ []) (record {
      some = omega arith;
      few = omega arith;
      rising = ((λ y i. absurd i), tt);
      below = λ z i. elim i [ inl e ↦ let e2 : z ≡ x = e in omega arith | inr n ↦ absurd n ];
    })).0 (omega (arith, limits.wide))

pub cover-one : (b : Limits) (x : ℕ) → AreLimits b → x < 2 ^ 32 → Set (x ∷ []) ≡ cover b (x ∷ [])
cover-one b x limits small = sym (one_value b x limits small).own

pub words_first : (b : Limits) (words : List ℕ) → 1 ≤ length words → cover b (get_or words 0 0 ∷ words) ≡ cover b words
words_first b words some =
    cover-same b (get_or words 0 0 ∷ words) words
    (λ z i. elim i [ inl e ↦ subst (λ (y : ℕ). Among y words) (sym e) (among_get words 0 some) | inr j ↦ j ])
    (λ z i. inr i)

pub range_all : (b : Limits) (out : Val) (k lo lo2 last last2 s unit : ℕ) → lo2 ≡ lo → last2 ≡ last → unit ≡ 2 ^ s → k ≡ last2 / unit + 1
    → out ≡ cover b (multiples (k - (lo2 + (unit - 1)) / unit) ((lo2 + (unit - 1)) / unit) unit) → out ≡ cover b (multiples_in_range lo last s)
range_all b out k lo lo2 last last2 s unit e f u g inv =
    inv ∙ rw (g, u, e, f) refl

pub range_step : (words : List ℕ) (start unit k j : ℕ) → ((j : ℕ) → start ≤ j → j < k → Among (j * unit) words) → Among (k * unit) words
    → start ≤ j → j < k + 1 → Among (j * unit) words
range_step words start unit k j before here low high =
    elim (cases_lt j k) [
      | inl lt ↦ before j low lt
      | inr ge ↦ let e : k ≡ j = omega arith in subst (λ (n : ℕ). Among (n * unit) words) e here
    ]

-- the value of all words
pub any_cover : (b : Limits) → AreLimits b → cover b (multiples_in_range 0 (2 ^ 32 - 1) 0) ≡ any_val
any_cover b limits =
    let low : floor b.thresholds 0 ≡ 0 = omega (arith, floor_le b.thresholds 0) in
    let high : threshold_above b.thresholds (2 ^ 32 - 1) ≡ 2 ^ 32 = omega (arith, above_lt b.thresholds (2 ^ 32 - 1), above_le b.thresholds (2 ^ 32 - 1) (omega arith)) in
    cover_span b (multiples_in_range 0 (2 ^ 32 - 1) 0) (many_range b 0 (2 ^ 32 - 1) 0 (omega (arith, limits.narrow))) (extent_range 0 (2 ^ 32 - 1) 0 (omega arith) (omega arith))
    ∙ rw (low, high) refl

pub any_value : (b : Limits) → AreLimits b → IsInLattice b any_val
any_value b limits = subst (λ (v : Val). IsInLattice b v) (any_cover b limits) (range_value b 0 (2 ^ 32 - 1) 0 limits (omega arith) (omega arith) (omega arith))

-- each value is below that of all words
pub below_any : (v : Val) → IsWellFormed v → IsBelow v any_val
below_any v well z m = (omega arith, omega (arith, members_below v well z (among_member v z (has_step v well) m)), omega arith)

-- multiples that are put into a list one after another
pub fill_none : (xs : List ℕ) (start unit : ℕ) → xs ≡ [] → (xs ≡ multiples (start - start) start unit) × (length xs ≡ start - start)
unfolding multiples
fill_none xs start unit e = let none : start - start ≡ 0 = omega arith in rw (e, none) (refl, refl)

pub fill_more : (xs : List ℕ) (k start unit : ℕ) → start ≤ k → xs ≡ multiples (k - start) start unit → length xs ≡ k - start
    → (xs ++ k * unit ∷ [] ≡ multiples (k + 1 - start) start unit) × (length (xs ++ k * unit ∷ []) ≡ k + 1 - start)
fill_more xs k start unit low e len =
    let next : k - start + 1 ≡ k + 1 - start = omega arith in
    let here : start + (k - start) ≡ k = omega arith in (
      ap (λ (l : List ℕ). l ++ k * unit ∷ []) e
          ∙ ap (λ (n : ℕ). multiples (k - start) start unit ++ n * unit ∷ []) (sym here)
          ∙ sym (multiples-more (k - start) start unit)
          ∙ ap (λ (n : ℕ). multiples n start unit) next,
      omega (arith, length-append xs (k * unit ∷ [])),
    )

pub value-rising : (b : Limits) (ws : List ℕ) → IsAscending ws → value_of_words b ws ≡ cover b ws
unfolding cover
value-rising b ws r = ap (value_of_words b) (sym (distinct-rising ws r))
