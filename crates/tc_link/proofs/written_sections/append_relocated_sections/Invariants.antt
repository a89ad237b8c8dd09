use Rattle.std.proofs.Common.{◌≡◌, ◌++◌}
use Rattle.tc_link.proofs.written_sections.append_relocated_sections.Given as goal

abbrev pub invariant-loop-section : goal.invariant-loop-section
invariant-loop-section l = l.contents.items ≡ l.initial.contents.items ++ l.yielded
