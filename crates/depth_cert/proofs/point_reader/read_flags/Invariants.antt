use Rattle.std.proofs.Common.{◌≡◌, ◌-◌, length, []}
use Rattle.tcd_base.specs.FieldReaders.{many_fields_at}
use Rattle.depth_cert.specs.Grammar.{flag_at}
use Rattle.depth_cert.proofs.point_reader.read_flags.Given as goal

abbrev pub invariant-loop-i : goal.invariant-loop-i
invariant-loop-i l = record {
  read : many_fields_at (λ before. flag_at) l.count [] l.initial.c ≡ many_fields_at (λ before. flag_at) (l.count - l._i) l.flags.items l.c;
  bytes : l.c.bytes ≡ l.initial.c.bytes;
  count : length l.flags.items ≡ l._i;
}
