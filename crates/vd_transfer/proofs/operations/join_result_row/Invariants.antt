use Rattle.std.proofs.Common.{◌≡◌, ◌≤◌, ◌<◌, ◌+◌, ◌*◌, ◌++◌, ◌-◌, ℕ, take, length, get_or}
use Rattle.value_domain.specs.Values.{cover, members, IsInLattice}
use Rattle.vd_transfer.specs.Operations.{HasMembers}
use Rattle.vd_transfer.proofs.operations.join_result_row.Given as goal

abbrev pub invariant-loop-e : goal.invariant-loop-e
invariant-loop-e l = record {
  cover : l.v ≡ cover l.b (members l.initial.v ++ take (8 * l.e) l.words);
  value : IsInLattice l.b l.v;
  met : HasMembers l.v l.met;
  eights : HasMembers l.v l.eights;
}

abbrev pub invariant-loop-j : goal.invariant-loop-j
invariant-loop-j l = l.missed ≡ 0 → (n : ℕ) → n < l.j → get_or l.eights (l.k + n) 0 ≡ get_or l.words (8 * l.e + n) 0

abbrev pub invariant-loop-i : goal.invariant-loop-i
invariant-loop-i l = record {
  within : l.i ≤ length l.words;
  cover : l.v ≡ cover l.b (members l.fn.v ++ take l.i l.words);
  value : IsInLattice l.b l.v;
  met : HasMembers l.v l.met;
  eights : HasMembers l.v l.eights;
}

abbrev pub decreases-loop-i : goal.decreases-loop-i
decreases-loop-i l = length l.words - l.i
