use Rattle.std.proofs.Common.{ℕ, ◌≤◌, take}
use Rattle.value_domain.specs.Sets.{Among}
use Rattle.tc_isa.specs.Arithmetic.{signed_rank}
use Rattle.vd_transfer.proofs.signed_refinement.signed_range_of_words.Given as goal

abbrev pub invariant-loop-x : goal.invariant-loop-x
invariant-loop-x l =
    Among l.low l.words × Among l.high l.words
    × ((z : ℕ) → Among z (take l.x-index l.words) → (signed_rank l.low ≤ signed_rank z) × (signed_rank z ≤ signed_rank l.high))
