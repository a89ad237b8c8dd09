use Rattle.std.proofs.Common.{◌≡◌, ◌-◌, []}
use Rattle.tcd_base.specs.FieldReaders.{many_fields_at}
use Rattle.tc_object.specs.Grammar.{next_reloc_at}
use Rattle.tc_object.proofs.reloc_reader.read_relocs.Given as goal

abbrev pub invariant-loop-i : goal.invariant-loop-i
invariant-loop-i l = record {
  read : many_fields_at (next_reloc_at l.sections l.symbols) l.count [] l.initial.c ≡ many_fields_at (next_reloc_at l.sections l.symbols) (l.count - l._i) l.relocs.items l.c;
}
