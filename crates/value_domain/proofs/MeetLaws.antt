-- Covers that may be none.
use Rattle.std.proofs.Common.{◌≡◌, ℕ, ◌^◌, ◌<◌, ◌≤◌, inl, inr, Bool, true, false, ◌&&◌, List, [], ◌∷◌, ◌++◌, length, refl, sym, ap, ◌∙◌, subst, arith, min, max, Some, None, leb, eqb}
use Rattle.std.specs.List.{filter, list_any}
use Rattle.std.proofs.lemmas.Bool.{cases_Bool, and_parts, and_from, leb-true, le-leb, or_cases, or_left, or_right, eqb-true, eq-eqb}
use Rattle.tcd_base.proofs.OptionLaws.{some_same}
use Rattle.value_domain.specs.declared.values.Val.{Val}
use Rattle.value_domain.specs.declared.values.Val.TheVariants.{Set, Span}
use Rattle.value_domain.specs.Sets.{Among, AreAmong, alignment_log2, multiples}
use Rattle.value_domain.specs.Limits.{Limits, AreLimits}
use Rattle.value_domain.specs.Values.{IsWellFormed, cover, members, multiples_in_range, span_len, first_member_quotient, is_in_span, is_member}
use Rattle.value_domain.specs.Meets.{cover_if_any}
use Rattle.value_domain.proofs.CoverLaws.{cover-same, range_among, among_range, length-multiples}
use Rattle.value_domain.proofs.ExtentLaws.{cover-more, cover-part, append_left, append_right, among_append}
use Rattle.value_domain.proofs.RangeLaws.{cover-one}

pub cover_some-same : (b : Limits) (xs ys : List ℕ) → AreAmong xs ys → AreAmong ys xs → cover_if_any b xs ≡ cover_if_any b ys
cover_some-same b [] [] there back = refl
cover_some-same b [] (y ∷ ys) there back = absurd (back y (inl refl))
cover_some-same b (x ∷ xs) [] there back = absurd (there x (inl refl))
cover_some-same b (x ∷ xs) (y ∷ ys) there back = ap (λ (v : Val). Some v) (cover-same b (x ∷ xs) (y ∷ ys) there back)

pub add_first : (b : Limits) (x : ℕ) (xs : List ℕ) → AreLimits b → x < 2 ^ 32 → None ≡ cover_if_any b xs → Some (Set (x ∷ [])) ≡ cover_if_any b (xs ++ x ∷ [])
add_first b x [] limits small e = ap (λ (v : Val). Some v) (cover-one b x limits small)
add_first b x (y ∷ ys) limits small e = absurd (let f : None ≡ Some (cover b (y ∷ ys)) = e in cc)

pub add_more : (b : Limits) (v : Val) (x : ℕ) (xs : List ℕ) → Some v ≡ cover_if_any b xs → Some (cover b (x ∷ members v)) ≡ cover_if_any b (xs ++ x ∷ [])
add_more b v x [] e = absurd (let f : Some v ≡ None = e in cc)
add_more b v x (y ∷ ys) e =
    let same : v ≡ cover b (y ∷ ys) = some_same v (cover b (y ∷ ys)) e in
    ap (λ (v : Val). Some v) (ap (λ (w : Val). cover b (x ∷ members w)) same ∙ cover-more b (y ∷ ys) x (omega arith))

swap_within : (xs ys : List ℕ) → AreAmong (xs ++ ys) (ys ++ xs)
swap_within xs ys z i = elim (among_append z xs ys i) [ inl j ↦ append_right z ys xs j | inr j ↦ append_left z ys xs j ]

pub cover-parts : (b : Limits) (xs ys : List ℕ) → 1 ≤ length xs → 1 ≤ length ys → cover b (members (cover b xs) ++ members (cover b ys)) ≡ cover b (xs ++ ys)
cover-parts b xs ys some_x some_y =
    cover-part b xs (members (cover b ys)) some_x
    ∙ cover-same b (xs ++ members (cover b ys)) (members (cover b ys) ++ xs) (swap_within xs (members (cover b ys))) (swap_within (members (cover b ys)) xs)
    ∙ cover-part b ys xs some_y
    ∙ cover-same b (ys ++ xs) (xs ++ ys) (swap_within ys xs) (swap_within xs ys)

pub join_both : (b : Limits) (v w : Val) (xs ys : List ℕ) → Some v ≡ cover_if_any b xs → Some w ≡ cover_if_any b ys
    → Some (cover b (members v ++ members w)) ≡ cover_if_any b (xs ++ ys)
join_both b v w [] ys e f = absurd (let g : Some v ≡ None = e in cc)
join_both b v w (x ∷ xs) [] e f = absurd (let g : Some w ≡ None = f in cc)
join_both b v w (x ∷ xs) (y ∷ ys) e f =
    let left : v ≡ cover b (x ∷ xs) = some_same v (cover b (x ∷ xs)) e in
    let right : w ≡ cover b (y ∷ ys) = some_same w (cover b (y ∷ ys)) f in
    ap (λ (v : Val). Some v)
    (ap (λ (u : Val). cover b (members u ++ members w)) left ∙ ap (λ (u : Val). cover b (members (cover b (x ∷ xs)) ++ members u)) right
    ∙ cover-parts b (x ∷ xs) (y ∷ ys) (omega arith) (omega arith))

-- ---- filters
pub among_filter : (p : ℕ → Bool) (z : ℕ) (xs : List ℕ) → Among z (filter p xs) → Among z xs × (p z ≡ true)
among_filter p z [] i = absurd i
among_filter p z (x ∷ xs) i =
    elim (cases_Bool (p x)) [
      | inl passes ↦
          elim (rw passes at i) [
            | inl e ↦ (inl e, ap p e ∙ passes)
            | inr j ↦ let r = among_filter p z xs j in (inr r.0, r.1)
          ]
      | inr fails ↦ let r = among_filter p z xs (rw fails at i) in (inr r.0, r.1)
    ]

pub filter_has : (p : ℕ → Bool) (z : ℕ) (xs : List ℕ) → Among z xs → p z ≡ true → Among z (filter p xs)
filter_has p z [] i e = absurd i
filter_has p z (x ∷ xs) i e =
    elim (cases_Bool (p x)) [
      | inl passes ↦ rw passes (elim i [ inl f ↦ inl f | inr j ↦ inr (filter_has p z xs j e) ])
      | inr fails ↦
          rw fails
          (elim i [
            | inl f ↦ let g : true ≡ false = sym e ∙ ap p f ∙ fails in absurd (cc)
            | inr j ↦ filter_has p z xs j e
          ])
    ]

pub in_span_parts : (lo last step x : ℕ) → is_in_span lo last step x ≡ true → (lo ≤ x) × (x ≤ last) × (step ≤ alignment_log2 x)
in_span_parts lo last step x e =
    let a = and_parts (leb lo x && leb x last) (leb step (alignment_log2 x)) e in
    let c = and_parts (leb lo x) (leb x last) a.0 in
    (leb-true lo x c.0, leb-true x last c.1, leb-true step (alignment_log2 x) a.1)

pub in_span_from : (lo last step x : ℕ) → lo ≤ x → x ≤ last → step ≤ alignment_log2 x → is_in_span lo last step x ≡ true
in_span_from lo last step x a b c =
    and_from (leb lo x && leb x last) (leb step (alignment_log2 x)) (and_from (leb lo x) (leb x last) (le-leb lo x a) (le-leb x last b)) (le-leb step (alignment_log2 x) c)

-- a range met with a range
pub meet_range : (b : Limits) (lo last step lo2 last2 step2 : ℕ) → step ≤ 2 → step2 ≤ 2
    → cover_if_any b (multiples_in_range (max lo lo2) (min last last2) (max step step2)) ≡ cover_if_any b (filter (is_in_span lo last step) (multiples_in_range lo2 last2 step2))
meet_range b lo last step lo2 last2 step2 small small2 =
    cover_some-same b (multiples_in_range (max lo lo2) (min last last2) (max step step2)) (filter (is_in_span lo last step) (multiples_in_range lo2 last2 step2))
    (λ z i.
    let m = range_among z (max lo lo2) (min last last2) (max step step2) (omega arith) i in
    filter_has (is_in_span lo last step) z (multiples_in_range lo2 last2 step2)
    (among_range z lo2 last2 step2 small2 (omega (arith, m.0), omega (arith, m.1), omega (arith, m.2)))
    (in_span_from lo last step z (omega (arith, m.0)) (omega (arith, m.1)) (omega (arith, m.2))))
    (λ z i.
    let f = among_filter (is_in_span lo last step) z (multiples_in_range lo2 last2 step2) i in
    let m = range_among z lo2 last2 step2 small2 f.0 in
    let n = in_span_parts lo last step z f.1 in
    among_range z (max lo lo2) (min last last2) (max step step2) (omega arith)
    (omega (arith, m.0, n.0), omega (arith, m.1, n.1), omega (arith, m.2, n.2)))

pub none_range : (b : Limits) (lo last s : ℕ) → span_len lo last s ≡ 0 → None ≡ cover_if_any b (multiples_in_range lo last s)
unfolding multiples
none_range b lo last s e = ap (λ n. cover_if_any b (multiples n (first_member_quotient lo s) (2 ^ s))) (sym e)

pub cover_some-some : (b : Limits) (xs : List ℕ) → 1 ≤ length xs → Some (cover b xs) ≡ cover_if_any b xs
cover_some-some b [] some = absurd (omega arith)
cover_some-some b (x ∷ xs) some = refl

pub some_range : (b : Limits) (lo last s : ℕ) → (span_len lo last s ≡ 0 → ⊥) → Some (cover b (multiples_in_range lo last s)) ≡ cover_if_any b (multiples_in_range lo last s)
some_range b lo last s some = cover_some-some b (multiples_in_range lo last s) (omega (arith, length-multiples (span_len lo last s) (first_member_quotient lo s) (2 ^ s)))

-- ---- tests of some word
pub any_among : (p : ℕ → Bool) (ws : List ℕ) → list_any p ws ≡ true → (y : ℕ) × Among y ws × (p y ≡ true)
any_among p [] e = absurd (let f : false ≡ true = e in cc)
any_among p (w ∷ ws) e =
    elim (or_cases (p w) (list_any p ws) e) [
      | inl here ↦ (w, inl refl, here)
      | inr rest ↦ let r = any_among p ws rest in (r.0, inr r.1, r.2)
    ]

pub among_any : (p : ℕ → Bool) (y : ℕ) (ws : List ℕ) → Among y ws → p y ≡ true → list_any p ws ≡ true
among_any p y [] i e = absurd i
among_any p y (w ∷ ws) i e =
    elim i [
      | inl f ↦ or_left (p w) (list_any p ws) (ap p (sym f) ∙ e)
      | inr j ↦ or_right (p w) (list_any p ws) (among_any p y ws j e)
    ]

pub is_member_parts : (x : ℕ) (v : Val) → IsWellFormed v → (is_member x v ≡ true → Among x (members v)) × (Among x (members v) → is_member x v ≡ true)
is_member_parts x (Set ws) well = (
  (λ e. let r = any_among (λ w. eqb x w) ws e in let f : x ≡ r.0 = eqb-true x r.0 r.2 in subst (λ (y : ℕ). Among y ws) (sym f) r.1),
  (λ i. among_any (λ w. eqb x w) x ws i (eq-eqb x x refl)),
)
is_member_parts x (Span lo last step) well = (
  (λ e. let n = in_span_parts lo last step x e in among_range x lo last step well.0 n),
  (λ i. let m = range_among x lo last step well.0 i in in_span_from lo last step x m.0 m.1 m.2),
)
