-- Lines of too many words.
use Rattle.std.proofs.Common.{◌≡◌, ◌<◌, ℕ, List, length, None, refl}
use Rattle.tcd_text.proofs.LineLaws.{more_words}
use Rattle.tc_link.specs.LayoutLines.{layout_line_of_words}

-- a line of more than four words has no form
pub more : (words : List (List ℕ)) → 4 < length words → layout_line_of_words words ≡ None
more words = more_words layout_line_of_words None (λ a b c d e words. refl) words
