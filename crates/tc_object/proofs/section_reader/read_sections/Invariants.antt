use Rattle.std.proofs.Common.{◌≡◌, ◌-◌, []}
use Rattle.tcd_base.specs.FieldReaders.{many_fields_at}
use Rattle.tc_object.specs.Grammar.{new_section_at}
use Rattle.tc_object.proofs.section_reader.read_sections.Given as goal

abbrev pub invariant-loop-i : goal.invariant-loop-i
invariant-loop-i l = record {
  read : many_fields_at new_section_at l.count [] l.initial.c ≡ many_fields_at new_section_at (l.count - l._i) l.sections.items l.c;
}
