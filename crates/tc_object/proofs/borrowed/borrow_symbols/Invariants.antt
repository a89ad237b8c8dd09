use Rattle.std.proofs.Common.{◌≡◌, take}
use Rattle.tc_object.proofs.borrowed.borrow_symbols.Given as goal

abbrev pub invariant-loop-symbol : goal.invariant-loop-symbol
invariant-loop-symbol l = l.parts.items ≡ take l.symbol-index l.symbols
