use Rattle.std.proofs.Common.{◌≡◌, ◌-◌, length, [], take}
use Rattle.tcd_base.specs.FieldReaders.{many_fields_at}
use Rattle.depth_cert.specs.Grammar.{value_at}
use Rattle.depth_cert.proofs.value_reader.read_values.Given as goal

abbrev pub invariant-loop-i : goal.invariant-loop-i
invariant-loop-i l = record {
  read : many_fields_at (λ before. value_at l.version) (length l.initial.out) [] l.initial.c ≡ many_fields_at (λ before. value_at l.version) (length l.initial.out - l.i) (take l.i l.out) l.c;
  bytes : l.c.bytes ≡ l.initial.c.bytes;
}
