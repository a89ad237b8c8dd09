-- Bounds of all cells, and of one.
use Rattle.std.proofs.Common.{zero, suc, ◌≤◌, List, [], ◌∷◌, subst, arith}
use Rattle.std.specs.Prelude.{All, Contains}
use Rattle.csa_chain.specs.MemoryBytes.{Memory, word_at}
use Rattle.value_cells.specs.declared.cells.Cell.{Cell}
use Rattle.value_cells.specs.Safe.{AreCellsInBounds}

abbrev pub IsInBounds : Memory → Cell → Type 0
IsInBounds mem c = (c.lo ≤ word_at mem c.at) × (word_at mem c.at ≤ c.hi)

pub all_in_bounds : (mem : Memory) (cells : List Cell) → All (IsInBounds mem) cells → AreCellsInBounds cells mem
all_in_bounds mem [] all = tt
all_in_bounds mem (c ∷ cs) all = (all 0 c (omega arith), all_in_bounds mem cs (λ k d lt. all (suc k) d (omega arith)))

pub one_in_bounds : (mem : Memory) (cells : List Cell) (c : Cell) → AreCellsInBounds cells mem → Contains cells c → IsInBounds mem c
one_in_bounds mem [] c bounds (k, lt, is) = absurd (omega arith)
one_in_bounds mem (d ∷ ds) c bounds (zero, lt, is) = subst (IsInBounds mem) is bounds.0
one_in_bounds mem (d ∷ ds) c bounds (suc k, lt, is) = one_in_bounds mem ds c bounds.1 (k, omega arith, is)
