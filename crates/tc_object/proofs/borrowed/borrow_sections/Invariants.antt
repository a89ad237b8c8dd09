use Rattle.std.proofs.Common.{◌≡◌, take}
use Rattle.tc_object.proofs.borrowed.borrow_sections.Given as goal

abbrev pub invariant-loop-section : goal.invariant-loop-section
invariant-loop-section l = l.parts.items ≡ take l.section-index l.sections
