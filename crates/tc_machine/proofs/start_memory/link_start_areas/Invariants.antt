use Rattle.std.proofs.Common.{◌≡◌}
use Rattle.tc_machine.specs.Starting.{with_area_links}
use Rattle.tc_machine.proofs.start_memory.link_start_areas.Given as goal

abbrev pub invariant-loop-i : goal.invariant-loop-i
invariant-loop-i l = l.mem ≡ with_area_links l.at l.first l.n l.fn.mem l.i
