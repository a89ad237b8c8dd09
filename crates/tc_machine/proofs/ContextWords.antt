-- The words of a save area, read one after another.
use Rattle.std.proofs.Common.{◌≡◌, ℕ, zero, suc, ◌+◌, ◌*◌, cond, List, [], ◌∷◌, map, Some, None, refl, ap, ◌∙◌, arith}
use Rattle.csa_chain.specs.MemoryBytes.{Memory, word_at, memory_words_at}
use Rattle.csa_chain.specs.Chain.{link_address, is_area_mapped}
use Rattle.tc_mem.specs.Areas.{mapped_area_words}
use Rattle.tc_machine.specs.SavesAndRestores.{saved_area_words}

-- n numbers, one after another
abbrev count_from : ℕ → ℕ → List ℕ
count_from i zero = []
count_from i (suc n) = i ∷ count_from (i + 1) n

next_word : (x i : ℕ) → x + 4 * i + 4 ≡ x + 4 * (i + 1)
next_word x i = omega arith

words_from : (m : Memory) (x i n : ℕ) → memory_words_at m (x + 4 * i) n ≡ map (λ k. word_at m (x + 4 * k)) (count_from i n)
unfolding memory_words_at
words_from m x i zero = refl
words_from m x i (suc n) =
    ap (λ y. word_at m (x + 4 * i) ∷ memory_words_at m y n) (next_word x i) ∙ ap (λ ws. word_at m (x + 4 * i) ∷ ws) (words_from m x (i + 1) n)

first_word : (x : ℕ) → x ≡ x + 4 * 0
first_word x = omega arith

-- they are the area's words
pub area_of_words : (m : Memory) (link : ℕ) → mapped_area_words m (link_address link) ≡ cond (is_area_mapped m link) (Some (saved_area_words m link)) None
area_of_words m link =
    ap (λ ws. cond (is_area_mapped m link) (Some ws) None) (ap (λ y. memory_words_at m y 16) (first_word (link_address link)) ∙ words_from m (link_address link) 0 16)
