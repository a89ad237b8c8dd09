-- The lines of a text, and the words of a line.
use Rattle.std.specs.Prelude.{◌≡◌, ◌<◌, ◌==◌, if◌then◌else◌, ℕ, Bool, List, ◌∷◌, length, true, false, []}
use Rattle.std.specs.List.{slice_split, onto_first}
use Rattle.tcd_text.specs.declared.words.Words.{Words}
use Rattle.tcd_text.specs.declared.words.Words.TheVariants.{One, Two, Three, Four, More}

-- the byte that ends a line: a line feed, in ASCII
abbrev pub is_line_feed : ℕ → Bool
is_line_feed c = c == 10

-- the lines of a text: a line feed ends each line (the last line may be without); an empty text has
-- no line
unfoldable pub text_lines : List ℕ → List (List ℕ)
text_lines [] = []
text_lines (c ∷ cs) = if c == 10 then [] ∷ text_lines cs else onto_first c (text_lines cs)

-- the blank that separates words, in ASCII
abbrev pub is_word_separator : ℕ → Bool
is_word_separator c = c == 32

-- the words of a line, separated by one blank each; so an empty line is one empty word
abbrev pub line_words : List ℕ → List (List ℕ)
line_words line = slice_split is_word_separator line

-- the `Words` of a line are these, in order: one to four of them, or `More` for a line of more than
-- four
abbrev pub AreLineWords : List (List ℕ) → Words → Type 0
AreLineWords words (One a) = words ≡ a.now ∷ []
AreLineWords words (Two a b) = words ≡ a.now ∷ b.now ∷ []
AreLineWords words (Three a b c) = words ≡ a.now ∷ b.now ∷ c.now ∷ []
AreLineWords words (Four a b c d) = words ≡ a.now ∷ b.now ∷ c.now ∷ d.now ∷ []
AreLineWords words More = 4 < length words

-- whether a line of a text isn't empty
abbrev pub is_nonempty_line : List ℕ → Bool
is_nonempty_line [] = false
is_nonempty_line (c ∷ cs) = true
