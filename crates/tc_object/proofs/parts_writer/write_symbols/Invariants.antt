use Rattle.std.proofs.Common.{◌≡◌, ◌++◌, take}
use Rattle.std.specs.List.{flat_map}
use Rattle.tc_object.specs.Spelling.{bytes_of_symbol}
use Rattle.tc_object.proofs.parts_writer.write_symbols.Given as goal

abbrev pub invariant-loop-symbol : goal.invariant-loop-symbol
invariant-loop-symbol l = l.out.items ≡ l.initial.out.items ++ flat_map bytes_of_symbol (take l.symbol-index l.symbols)
