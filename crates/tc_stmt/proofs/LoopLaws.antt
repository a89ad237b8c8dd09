-- Steps of loops over lists that are viewed as other lists.
use Rattle.std.proofs.Common.{◌≡◌, ◌≢◌, ◌<◌, ◌≤◌, ◌+◌, ◌++◌, min, ℕ, zero, suc, Bool, true, false, cond, List, [], ◌∷◌, length, get_or, take, drop, map, None, Some, refl, ap, sym, ◌∙◌, append_assoc, arith}
use Rattle.std.proofs.lemmas.Option.{cond_some}
use Rattle.std.specs.Prelude.{fold, position, nat_lt, slice_get, ◌==◌}
use Rattle.std.specs.List.{slice_split, position_or_len}
use Rattle.std.proofs.lemmas.List.Splits.{slice_split_first, slice_split_none}
use Rattle.std.proofs.lemmas.Bool.{ltb-true, ltb-false}
use Rattle.std.proofs.lemmas.List.{take_more, map_push, length-map, get_or-map}
use Rattle.std.proofs.lemmas.List.Sums.{fold_more, fails_before_first}
use Rattle.tc_lex.specs.declared.operand.Operand.{Operand}
use Rattle.tc_lex.specs.Operands.{operand_of}
use Rattle.tc_stmt.specs.DataValues.{rule_broken_by_value, rule_broken_by_space, space_item}
use Rattle.tc_stmt.specs.Items.{zeros}
use Rattle.tc_stmt.specs.Lines.{line_data, is_unbracketed_name, only_operand_name, space_line}
use Rattle.tc_lex.proofs.Parted.{none_from}

-- a further item at the end of a mapped start of a list
pub pushed : {B C : Type 0} (g : B → C) (pre : List C) (xs : List B) (i : ℕ) (d : B) (out new : List C) (x : C)
    → i < length xs → new ≡ out ++ x ∷ [] → x ≡ g (get_or xs i d) → out ≡ pre ++ map g (take i xs) → new ≡ pre ++ map g (take (i + 1) xs)
pushed g pre xs i d out new x within e is so_far =
    e
    ∙ ap (λ y. out ++ y ∷ []) is
    ∙ ap (λ ys. ys ++ g (get_or xs i d) ∷ []) so_far
    ∙ append_assoc pre (map g (take i xs)) (g (get_or xs i d) ∷ [])
    ∙ ap (λ ys. pre ++ ys) (sym (map_push g (take i xs) (get_or xs i d)) ∙ ap (map g) (sym (take_more xs i d within)))

pub rule_more : (width : ℕ) (os : List Operand) (i : ℕ) (d : Operand) (first rule next value : ℕ)
    → i < length os → next ≡ min rule value → value ≡ rule_broken_by_value width (operand_of (get_or os i d)) → rule ≡ fold (λ r o. min r (rule_broken_by_value width o)) first (take i (map operand_of os))
    → next ≡ fold (λ r o. min r (rule_broken_by_value width o)) first (take (i + 1) (map operand_of os))
rule_more width os i d first rule next value within e is so_far =
    e
    ∙ ap (min rule) (is ∙ ap (rule_broken_by_value width) (sym (get_or-map operand_of os i d (operand_of d) within)))
    ∙ ap (λ r. min r (rule_broken_by_value width (get_or (map operand_of os) i (operand_of d)))) so_far
    ∙ sym (fold_more (λ r o. min r (rule_broken_by_value width o)) first (map operand_of os) i (operand_of d) (rw (length-map os operand_of) within))

-- ---- a list of one operand
pub word_of-one : (os : List Operand) (d : Operand) → length os ≡ 1
    → only_operand_name (map operand_of os) ≡ cond (is_unbracketed_name (operand_of (get_or os 0 d))) (Some (operand_of (get_or os 0 d)).value.name) None
unfolding only_operand_name
word_of-one [] d h = absurd (omega arith)
word_of-one (o ∷ []) d h = refl
word_of-one (o ∷ p ∷ os) d h = absurd (omega arith)

pub word_of-other : (os : List Operand) → length os ≢ 1 → only_operand_name (map operand_of os) ≡ None
unfolding only_operand_name
word_of-other [] h = refl
word_of-other (o ∷ []) h = absurd (h refl)
word_of-other (o ∷ p ∷ os) h = refl

pub space_line-one : (os : List Operand) (d : Operand) → length os ≡ 1
    → space_line (map operand_of os) ≡ line_data (rule_broken_by_space (operand_of (get_or os 0 d))) (space_item (operand_of (get_or os 0 d)) ∷ [])
unfolding space_line
space_line-one [] d h = absurd (omega arith)
space_line-one (o ∷ []) d h = refl
space_line-one (o ∷ p ∷ os) d h = absurd (omega arith)

pub space_line-other : (os : List Operand) → length os ≢ 1 → space_line (map operand_of os) ≡ line_data 3 (zeros 0 ∷ [])
unfolding space_line
space_line-other [] h = refl
space_line-other (o ∷ []) h = absurd (h refl)
space_line-other (o ∷ p ∷ os) h = refl

-- ---- lines
abbrev pub is_feed : ℕ → Bool
is_feed c = c == 10

pub lines_more : (out : List (List ℕ)) (rest : List ℕ) (i : ℕ) → position is_feed rest ≡ Some i
    → (out ++ take i rest ∷ []) ++ slice_split is_feed (drop (i + 1) rest) ≡ out ++ slice_split is_feed rest
lines_more out rest i e =
    let w = cond_some (nat_lt (position_or_len is_feed rest) (length rest)) (position_or_len is_feed rest) i e in
    append_assoc out (take i rest ∷ []) (slice_split is_feed (drop (i + 1) rest))
    ∙ ap (λ parts. out ++ parts) (sym (slice_split_first is_feed rest 0 (ltb-true _ _ w.0) ∙ ap (λ n. take n rest ∷ slice_split is_feed (drop (n + 1) rest)) w.1))

pub lines_end : (out : List (List ℕ)) (rest : List ℕ) → position is_feed rest ≡ None → out ++ rest ∷ [] ≡ out ++ slice_split is_feed rest
lines_end out rest e =
    let past : length rest ≤ position_or_len is_feed rest = ltb-false _ _ (none_from (nat_lt (position_or_len is_feed rest) (length rest)) (position_or_len is_feed rest) e) in
    ap (λ parts. out ++ parts) (sym (slice_split_none is_feed rest (λ k d h. fails_before_first is_feed rest k d (omega (arith, past)))))

-- ---- items that are pushed, by their numbers
pub pushed_seen : {B C D : Type 0} (v : B → D) (g : D → C) (pre : List C) (xs : List B) (i : ℕ) (b : B) (out new : List C) (x : C)
    → i < length xs → b ≡ get_or xs i b → new ≡ out ++ x ∷ [] → x ≡ g (v b) → out ≡ pre ++ map g (take i (map v xs)) → new ≡ pre ++ map g (take (i + 1) (map v xs))
pushed_seen v g pre xs i b out new x within at e is so_far =
    pushed g pre (map v xs) i (v b) out new x (rw (length-map xs v) within) e (is ∙ ap (λ y. g (v y)) at ∙ ap g (sym (get_or-map v xs i b (v b) within))) so_far

pub pushed_view : {B C D : Type 0} (v : B → D) (g : D → C) (pre : List C) (xs : List B) (i : ℕ) (d : B) (out new : List C) (x : C)
    → i < length xs → new ≡ out ++ x ∷ [] → x ≡ g (v (get_or xs i d)) → out ≡ pre ++ map g (take i (map v xs)) → new ≡ pre ++ map g (take (i + 1) (map v xs))
pushed_view v g pre xs i d out new x within e is so_far =
    pushed g pre (map v xs) i (v d) out new x (rw (length-map xs v) within) e (is ∙ ap g (sym (get_or-map v xs i d (v d) within))) so_far

got_within : {B : Type 0} (xs : List B) (i : ℕ) (b : B) → slice_get xs i ≡ Some b → i < length xs
got_within [] i b e = cc
got_within (x ∷ xs) zero b e = omega arith
got_within (x ∷ xs) (suc i) b e = let h : i < length xs = got_within xs i b e in omega arith

got_at : {B : Type 0} (xs : List B) (i : ℕ) (b : B) → slice_get xs i ≡ Some b → b ≡ get_or xs i b
got_at [] i b e = cc
got_at (x ∷ xs) zero b e = cc
got_at (x ∷ xs) (suc i) b e = got_at xs i b e

pub pushed_got : {B C : Type 0} (g : B → C) (pre : List C) (xs : List B) (i : ℕ) (b : B) (out new : List C) (x : C)
    → slice_get xs i ≡ Some b → new ≡ out ++ x ∷ [] → x ≡ g b → out ≡ pre ++ map g (take i xs) → new ≡ pre ++ map g (take (i + 1) xs)
pushed_got g pre xs i b out new x got e is so_far =
    pushed g pre xs i b out new x (got_within xs i b got) e (is ∙ ap g (got_at xs i b got)) so_far

pub word_of-yes : (os : List Operand) (d : Operand) (b : Bool) → length os ≡ 1 → b ≡ is_unbracketed_name (operand_of (get_or os 0 d)) → b ≡ true → Some (operand_of (get_or os 0 d)).value.name ≡ only_operand_name (map operand_of os)
word_of-yes os d b one e h = sym (word_of-one os d one ∙ ap (λ x. cond x (Some (operand_of (get_or os 0 d)).value.name) None) (sym e ∙ h))

pub word_of-no : (os : List Operand) (d : Operand) (b : Bool) → length os ≡ 1 → b ≡ is_unbracketed_name (operand_of (get_or os 0 d)) → b ≡ false → None ≡ only_operand_name (map operand_of os)
word_of-no os d b one e h = sym (word_of-one os d one ∙ ap (λ x. cond x (Some (operand_of (get_or os 0 d)).value.name) None) (sym e ∙ h))
