-- A value with one more word.
use Rattle.std.proofs.Common.{◌≡◌, ℕ, ◌-◌, ◌<◌, ◌≤◌, inl, inr, List, [], ◌∷◌, ◌++◌, ◌+◌, ◌^◌, length, refl, sym, ap, ◌∙◌, subst, arith, min, max, bit_or, take, drop, get_or, length-append, length-drop, append_assoc, append-nil, IsNone, true, false}
use Rattle.std.proofs.lemmas.List.{take_more, take_all, take-append-drop}
use Rattle.value_domain.specs.declared.values.Val.{Val}
use Rattle.value_domain.specs.declared.values.Val.TheVariants.{Set, Span}
use Rattle.value_domain.specs.Sets.{Among, IsAscending, AreSetWords, sorted_set_insert, sorted_set_of, alignment_log2, IsExtent, least}
use Rattle.value_domain.specs.Limits.{Limits, AreLimits}
use Rattle.value_domain.specs.Floors.{floor, threshold_above}
use Rattle.value_domain.specs.Values.{IsMember, IsWellFormed, IsInLattice, cover, members, multiples_in_range, words_of}
use Rattle.value_domain.proofs.SetLaws.{distinct-rising, length-put_new, length_put, length-distinct, least_among}
use Rattle.value_domain.proofs.CoverLaws.{cover-few, cover-same, among_member, has_step}
use Rattle.value_domain.proofs.ExtentLaws.{cover_span, cover-part, extent_append, extent_one, many_span, append_left, among_append}
use Rattle.value_domain.proofs.RangeLaws.{cover_value, members_below, some_members}
use Rattle.value_domain.proofs.WordLaws.{among_place}
use Rattle.value_domain.proofs.BitLaws.{alignment_log2-or}

pub with_member : (b : Limits) (v : Val) (x : ℕ) → IsInLattice b v → IsMember x v → v ≡ cover b (x ∷ members v)
with_member b v x value m =
    sym value.own
    ∙ cover-same b (members v) (x ∷ members v) (λ z i. inr i)
    (λ z i. elim i [ inl e ↦ subst (λ (y : ℕ). Among y (members v)) (sym e) (among_member v x (has_step v value.well) m) | inr j ↦ j ])

distinct-more : (x : ℕ) (ws : List ℕ) → IsAscending ws → sorted_set_of (x ∷ ws) ≡ sorted_set_insert x ws
unfolding sorted_set_of
distinct-more x ws r = ap (sorted_set_insert x) (distinct-rising ws r)

pub with_room : (b : Limits) (ws : List ℕ) (x : ℕ) → AreSetWords ws → length ws < b.most_words → Set (sorted_set_insert x ws) ≡ cover b (x ∷ ws)
with_room b ws x a room =
    let e = distinct-more x ws a.rising in
    ap (λ (l : List ℕ). Set l) (sym e) ∙ sym (cover-few b (x ∷ ws) (rw e (omega (arith, length_put x ws))))

pub with_full : {lo hi s : ℕ} (b : Limits) (ws : List ℕ) (x : ℕ) → AreSetWords ws → (Among x ws → ⊥) → b.most_words ≤ length ws → IsExtent ws lo hi s
    → Span (floor b.thresholds (min x lo)) (threshold_above b.thresholds (max x hi) - 1) (min (alignment_log2 x) s) ≡ cover b (x ∷ ws)
with_full b ws x a absent full e =
    let d = distinct-more x ws a.rising in
    sym (cover_span b (x ∷ ws) (rw d (omega (arith, length-put_new x ws absent))) (extent_append (x ∷ []) ws (extent_one x) e))

pub with_span : {least greatest s : ℕ} (b : Limits) (lo last step : ℕ) (x : ℕ) → IsInLattice b (Span lo last step) → IsExtent (multiples_in_range lo last step) least greatest s
    → Span (floor b.thresholds (min x least)) (threshold_above b.thresholds (max x greatest) - 1) (min (alignment_log2 x) s) ≡ cover b (x ∷ multiples_in_range lo last step)
with_span b lo last step x value e =
    sym (cover_span b (x ∷ multiples_in_range lo last step)
    (omega (arith, many_span b lo last step value, length-distinct (multiples_in_range lo last step) (x ∷ multiples_in_range lo last step) (λ z i. inr i)))
    (extent_append (x ∷ []) (multiples_in_range lo last step) (extent_one x) e))

pub with_wider : {lo hi s : ℕ} (b : Limits) (v : Val) (x : ℕ) → IsInLattice b v → (IsMember x v → ⊥) → ((ws : List ℕ) → v ≡ Set ws → b.most_words ≤ length ws) → IsExtent (members v) lo hi s
    → Span (floor b.thresholds (min x lo)) (threshold_above b.thresholds (max x hi) - 1) (min (alignment_log2 x) s) ≡ cover b (x ∷ members v)
with_wider b (Set ws) x value absent full e = with_full b ws x value.well absent (full ws refl) e
with_wider b (Span lo last step) x value absent full e = with_span b lo last step x value e

pub same_words : (ws us : List ℕ) → Set ws ≡ Set us → ws ≡ us
same_words ws us e = cc

-- ---- more words at once
pub extent_none : {lo hi s : ℕ} (xs : List ℕ) → IsExtent xs lo hi s → IsExtent (xs ++ []) lo hi (min (alignment_log2 0) s)
unfolding alignment_log2
extent_none {lo} {hi} {s} xs e =
    let small : s ≤ 2 = e.small in
    let same : min 2 s ≡ s = omega arith in
    rw (append-nil xs, same) e

pub extent_next : (lo hi s : ℕ) (xs ws : List ℕ) (i bits : ℕ) → i < length ws → IsExtent (xs ++ take i ws) lo hi (min (alignment_log2 bits) s)
    → IsExtent (xs ++ take (i + 1) ws) (min lo (get_or ws i 0)) (max hi (get_or ws i 0)) (min (alignment_log2 (bit_or bits (get_or ws i 0))) s)
extent_next lo hi s xs ws i bits h e =
    let x = get_or ws i 0 in
    let more = extent_append (xs ++ take i ws) (x ∷ []) e (extent_one x) in
    let step : min (min (alignment_log2 bits) s) (alignment_log2 x) ≡ min (alignment_log2 (bit_or bits x)) s = omega (arith, alignment_log2-or bits x) in
    let list : (xs ++ take i ws) ++ (x ∷ []) ≡ xs ++ take (i + 1) ws = append_assoc xs (take i ws) (x ∷ []) ∙ ap (λ (l : List ℕ). xs ++ l) (sym (take_more ws i 0 h)) in
    subst (λ (l : List ℕ). IsExtent l (min lo x) (max hi x) (min (alignment_log2 (bit_or bits x)) s)) list
    (subst (λ (t : ℕ). IsExtent ((xs ++ take i ws) ++ (x ∷ [])) (min lo x) (max hi x) t) step more)

pub widened : {lo hi s : ℕ} (b : Limits) (v : Val) (ws : List ℕ) → IsInLattice b v → IsNone (words_of v) → IsExtent (members v ++ ws) lo hi s
    → Span (floor b.thresholds lo) (threshold_above b.thresholds hi - 1) s ≡ cover b (members v ++ ws)
widened b (Set us) ws value span e = absurd (let f : true ≡ false = span in cc)
widened b (Span lo last step) ws value span e =
    sym (cover_span b (multiples_in_range lo last step ++ ws)
    (omega (arith, many_span b lo last step value, length-distinct (multiples_in_range lo last step) (multiples_in_range lo last step ++ ws) (λ z i. append_left z (multiples_in_range lo last step) ws i))) e)

-- the rest of the words, after some of them
pub words_rest : (b : Limits) (v out : Val) (words : List ℕ) (i : ℕ) → IsWellFormed v → out ≡ cover b (members v ++ take i words)
    → cover b (members out ++ take (length words - i) (drop i words)) ≡ cover b (members v ++ words)
words_rest b v out words i well e =
    ap (λ (l : List ℕ). cover b (members out ++ l)) (take_all (length words - i) (drop i words) (omega (arith, length-drop i words))) ∙
    ap (λ (o : Val). cover b (members o ++ drop i words)) e
    ∙ cover-part b (members v ++ take i words) (drop i words) (omega (arith, length-append (members v) (take i words), some_members v well))
    ∙ ap (cover b) (append_assoc (members v) (take i words) (drop i words) ∙ ap (λ (l : List ℕ). members v ++ l) (take-append-drop i words))

pub words_value : (b : Limits) (v : Val) (words : List ℕ) → AreLimits b → IsInLattice b v → ((k : ℕ) → get_or words k 0 < 2 ^ 32) → IsInLattice b (cover b (members v ++ words))
words_value b v words limits value below =
    cover_value b (members v ++ words) (least (members v)) limits (append_left (least (members v)) (members v) words (least_among (members v) (some_members v value.well)))
    (λ z i. elim (among_append z (members v) words i) [
      | inl j ↦ members_below v value.well z j
      | inr j ↦ let p = among_place words z j in subst (λ (n : ℕ). n < 2 ^ 32) p.2 (below p.0)
    ])
