use Rattle.std.proofs.Common.{◌≡◌, ◌≤◌, take, length}
use Rattle.std.specs.List.{flat_map}
use Rattle.value_domain.specs.Values.{IsInLattice, cover}
use Rattle.store_ranges.specs.Loads.{loaded_words_at}
use Rattle.store_ranges.proofs.loads.write_loads.Given as goal

abbrev pub invariant-loop-i : goal.invariant-loop-i
invariant-loop-i l =
    let so_far = flat_map (loaded_words_at l.image l.plan l.load.size l.load.signed) (take l.i l.words) in
    (l.out ≡ cover l.b so_far) × IsInLattice l.b l.out × (1 ≤ length so_far)
