use Rattle.std.proofs.Common.{◌≡◌, ◌≤◌, ◌+◌, ◌-◌, length, [], take, drop}
use Rattle.tcd_base.specs.FieldReaders.{many_fields_at}
use Rattle.depth_cert.specs.Grammar.{value_at}
use Rattle.packed_cert.specs.RepeatedBytes.{AreBytesRepeated}
use Rattle.packed_cert.specs.ValuesInBytes.{AreValuesBetween, place_in_bytes, offset_after_values}
use Rattle.packed_cert.specs.ChangedRows.{ChangesOnlyRow, IsRowOfValuesAt}
use Rattle.packed_cert.proofs.value_reader.read_changed_values.Given as goal

abbrev pub invariant-loop-i : goal.invariant-loop-i
invariant-loop-i l = record {
  read : many_fields_at (λ before. value_at l.version) (length l.initial.out) [] l.initial.c ≡ many_fields_at (λ before. value_at l.version) (length l.initial.out - l.i) (take l.i l.out) (place_in_bytes l.bytes l.place);
  bytes : l.c.bytes ≡ l.bytes;
  order : l.c.place ≤ l.place;
  held : AreValuesBetween l.version l.bytes l.from (drop l.i l.out) (l.before).end;
  start : l.from ≤ l.stop;
  first : l.stop ≤ length l.bytes;
  second : l.place + (l.stop - l.from) ≤ length l.bytes;
  same : AreBytesRepeated l.bytes l.from l.place (l.stop - l.from);
  row : ChangesOnlyRow l.initial.out l.out l.row;
  few : (l.row).behind ≤ l.i;
  placed : offset_after_values l.bytes l.initial.c.place l.i ≡ l.place;
  from : IsRowOfValuesAt l.bytes l.initial.c.place l.row;
}
