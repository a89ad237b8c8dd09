-- Lines of more words than four.
use Rattle.std.proofs.Common.{◌≡◌, ◌<◌, ℕ, List, length, None, refl}
use Rattle.tcd_text.proofs.LineLaws.{more_words}
use Rattle.task_chains.specs.TaskListText.{number_pair_of_words}

pub more : (name : List ℕ) (words : List (List ℕ)) → 4 < length words → number_pair_of_words name words ≡ None
unfolding number_pair_of_words
more name words = more_words (number_pair_of_words name) None (λ a b c d e words. refl) words
