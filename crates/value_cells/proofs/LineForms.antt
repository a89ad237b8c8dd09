-- Lines of more words than a cell's.
use Rattle.std.proofs.Common.{◌≡◌, ◌<◌, ℕ, List, length, None, refl}
use Rattle.tcd_text.proofs.LineLaws.{more_words}
use Rattle.value_cells.specs.CellListText.{cell_of_words}

pub more : (words : List (List ℕ)) → 4 < length words → cell_of_words words ≡ None
unfolding cell_of_words
more words = more_words cell_of_words None (λ a b c d e words. refl) words
