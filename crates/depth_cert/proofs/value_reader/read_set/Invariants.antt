use Rattle.std.proofs.Common.{◌≡◌, ◌-◌, length, []}
use Rattle.std.specs.List.Sorted.{IsStrictlyIncreasing}
use Rattle.tcd_base.specs.FieldReaders.{many_fields_at}
use Rattle.depth_cert.specs.Grammar.{set_word_after}
use Rattle.depth_cert.proofs.value_reader.read_set.Given as goal

abbrev pub invariant-loop-i : goal.invariant-loop-i
invariant-loop-i g l = record {
  read : many_fields_at set_word_after l.n [] l.initial.c ≡ many_fields_at set_word_after (l.n - l._i) l.words.items l.c;
  bytes : l.c.bytes ≡ l.initial.c.bytes;
  count : length l.words.items ≡ l._i;
  rising : IsStrictlyIncreasing l.words.items;
}
