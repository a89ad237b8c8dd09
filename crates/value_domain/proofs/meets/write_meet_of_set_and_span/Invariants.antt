use Rattle.std.proofs.Common.{◌≡◌, take}
use Rattle.std.specs.Prelude.{IfSome, filter}
use Rattle.value_domain.specs.Values.{IsInLattice, is_in_span}
use Rattle.value_domain.specs.Meets.{cover_if_any, value_if_found}
use Rattle.value_domain.proofs.meets.write_meet_of_set_and_span.Given as goal

abbrev pub invariant-loop-x : goal.invariant-loop-x
invariant-loop-x l = (value_if_found l.found l.out ≡ cover_if_any l.b (filter (is_in_span l.lo l.last l.step) (take l.x-index l.words))) × IfSome (value_if_found l.found l.out) (IsInLattice l.b)
