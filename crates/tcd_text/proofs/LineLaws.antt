-- Laws of lines and words of a text, one after another.
use Rattle.std.proofs.Common.{◌≡◌, ◌<◌, ◌≤◌, ◌+◌, ◌∷◌, [], ℕ, suc, Bool, true, false, cond, List, length, take, drop, Some, None, refl, ap, sym, ◌∙◌, arith}
use Rattle.std.specs.Prelude.{position, nat_lt, not, ◌==◌}
use Rattle.std.specs.List.{slice_split, onto_first, position_or_len}
use Rattle.std.proofs.lemmas.List.Splits.{slice_split_first, slice_split_none, length-slice_split}
use Rattle.std.proofs.lemmas.List.Sums.{fails_before_first, prefix_len-le-length}
use Rattle.std.proofs.lemmas.Bool.{ltb-true, ltb-false}
use Rattle.tcd_text.specs.Lines.{text_lines, is_word_separator}

-- ---- words
some_from : (b : Bool) (n i : ℕ) → cond b (Some n) None ≡ Some i → (b ≡ true) × (n ≡ i)
some_from true n i e = (refl, cc)
some_from false n i e = cc

none_from : (b : Bool) (n : ℕ) → cond b (Some n) None ≡ None → b ≡ false
none_from true n e = cc
none_from false n e = refl

pub split_at : (xs : List ℕ) (i : ℕ) → position is_word_separator xs ≡ Some i → slice_split is_word_separator xs ≡ take i xs ∷ slice_split is_word_separator (drop (i + 1) xs)
split_at xs i e =
    let w = some_from (nat_lt (position_or_len is_word_separator xs) (length xs)) (position_or_len is_word_separator xs) i e in
    slice_split_first is_word_separator xs 0 (ltb-true _ _ w.0)
    ∙ ap (λ n. take n xs ∷ slice_split is_word_separator (drop (n + 1) xs)) w.1

pub split_whole : (xs : List ℕ) → position is_word_separator xs ≡ None → slice_split is_word_separator xs ≡ xs ∷ []
split_whole xs e =
    let past : length xs ≤ position_or_len is_word_separator xs = ltb-false _ _ (none_from (nat_lt (position_or_len is_word_separator xs) (length xs)) (position_or_len is_word_separator xs) e) in
    slice_split_none is_word_separator xs (λ k d h. fails_before_first is_word_separator xs k d (omega (arith, past)))

-- a line has at least one word
some_word : (text : List ℕ) → 0 < length (slice_split is_word_separator text)
some_word text = let n = length-slice_split is_word_separator text in omega arith

-- a line of four words and a rest has more than four
pub five_words : (words second third fourth : List (List ℕ)) (a b c d : List ℕ) (text : List ℕ) → words ≡ a ∷ second → second ≡ b ∷ third → third ≡ c ∷ fourth
    → fourth ≡ d ∷ slice_split is_word_separator text → 4 < length words
five_words words second third fourth a b c d text one two three four =
    let n = some_word text in
    rw (one, two, three, four) (omega arith)

-- what a function has for more than four words, whatever they are
pub more_words : {A : Type 0} (f : List (List ℕ) → A) (x : A) → ((a b c d e : List ℕ) (words : List (List ℕ)) → f (a ∷ b ∷ c ∷ d ∷ e ∷ words) ≡ x) → (words : List (List ℕ)) → 4 < length words → f words ≡ x
more_words f x same [] more = absurd (omega arith)
more_words f x same (a ∷ []) more = absurd (omega arith)
more_words f x same (a ∷ b ∷ []) more = absurd (omega arith)
more_words f x same (a ∷ b ∷ c ∷ []) more = absurd (omega arith)
more_words f x same (a ∷ b ∷ c ∷ d ∷ []) more = absurd (omega arith)
more_words f x same (a ∷ b ∷ c ∷ d ∷ e ∷ words) more = same a b c d e words

-- ---- lines
abbrev pub end_of : List ℕ → ℕ
end_of text = position_or_len (λ c. c == 10) text

-- the end of the first line: the place that was found, or the length
pub found_end : (text : List ℕ) (i : ℕ) → position (λ c. c == 10) text ≡ Some i → i ≡ end_of text
found_end text i e = sym (some_from (nat_lt (end_of text) (length text)) (end_of text) i e).1

pub no_end : (text : List ℕ) → position (λ c. c == 10) text ≡ None → length text ≡ end_of text
no_end text e =
    let past : length text ≤ end_of text = ltb-false _ _ (none_from (nat_lt (end_of text) (length text)) (end_of text) e) in
    let most : end_of text ≤ length text = prefix_len-le-length (λ c. not (c == 10)) text in
    omega arith

push_by : (b : Bool) (c d : ℕ) (ds : List ℕ) → onto_first d (text_lines ds) ≡ (d ∷ take (end_of ds) ds) ∷ text_lines (drop (end_of ds + 1) ds)
    → onto_first c (cond b ([] ∷ text_lines ds) (onto_first d (text_lines ds))) ≡ (c ∷ take (cond (not b) (1 + end_of ds) 0) (d ∷ ds)) ∷ text_lines (drop (cond (not b) (1 + end_of ds) 0 + 1) (d ∷ ds))
push_by true c d ds ih = refl
push_by false c d ds ih =
    let a : 1 + end_of ds ≡ suc (end_of ds) = omega arith in
    let b : 1 + end_of ds + 1 ≡ suc (end_of ds + 1) = omega arith in
    ap (onto_first c) ih
    ∙ ap (λ k. (c ∷ take k (d ∷ ds)) ∷ text_lines (drop (end_of ds + 1) ds)) (sym a)
    ∙ ap (λ k. (c ∷ take (1 + end_of ds) (d ∷ ds)) ∷ text_lines (drop k (d ∷ ds))) (sym b)

push : (c : ℕ) (cs : List ℕ) → onto_first c (text_lines cs) ≡ (c ∷ take (end_of cs) cs) ∷ text_lines (drop (end_of cs + 1) cs)
unfolding text_lines
push c [] = refl
push c (d ∷ ds) = push_by (d == 10) c d ds (push d ds)

first_by : (b : Bool) (c : ℕ) (cs : List ℕ) → onto_first c (text_lines cs) ≡ (c ∷ take (end_of cs) cs) ∷ text_lines (drop (end_of cs + 1) cs)
    → cond b ([] ∷ text_lines cs) (onto_first c (text_lines cs)) ≡ take (cond (not b) (1 + end_of cs) 0) (c ∷ cs) ∷ text_lines (drop (cond (not b) (1 + end_of cs) 0 + 1) (c ∷ cs))
first_by true c cs ih = refl
first_by false c cs ih =
    let a : 1 + end_of cs ≡ suc (end_of cs) = omega arith in
    let b : 1 + end_of cs + 1 ≡ suc (end_of cs + 1) = omega arith in
    ih
    ∙ ap (λ k. take k (c ∷ cs) ∷ text_lines (drop (end_of cs + 1) cs)) (sym a)
    ∙ ap (λ k. take (1 + end_of cs) (c ∷ cs) ∷ text_lines (drop k (c ∷ cs))) (sym b)

-- the first line, and the lines after it
pub lines_of-first : (text : List ℕ) → 0 < length text → text_lines text ≡ take (end_of text) text ∷ text_lines (drop (end_of text + 1) text)
unfolding text_lines
lines_of-first [] h = absurd (omega arith)
lines_of-first (c ∷ cs) h = first_by (c == 10) c cs (push c cs)
