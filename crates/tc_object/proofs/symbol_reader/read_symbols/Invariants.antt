use Rattle.std.proofs.Common.{◌≡◌, ◌-◌, ℕ, List, []}
use Rattle.tcd_base.specs.FieldReaders.{many_fields_at}
use Rattle.tc_object.specs.Grammar.{new_symbol_at}
use Rattle.tc_object.specs.Objects.{is_symbol_name}
use Rattle.tc_object.specs.Used.{is_used_name}
use Rattle.tc_object.proofs.symbol_reader.read_symbols.Given as goal

abbrev pub invariant-loop-i : goal.invariant-loop-i
invariant-loop-i l = record {
  read : many_fields_at (new_symbol_at l.sections) l.count [] l.initial.c ≡ many_fields_at (new_symbol_at l.sections) (l.count - l._i) l.symbols.items l.c;
  names : (q : List ℕ) → is_used_name l.names q ≡ is_symbol_name l.symbols.items q;
}
