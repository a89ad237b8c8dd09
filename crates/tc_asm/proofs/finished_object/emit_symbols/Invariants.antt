use Rattle.std.proofs.Common.{◌≡◌, take, map}
use Rattle.tc_asm.specs.Objects.{symbol_of}
use Rattle.tc_asm.proofs.finished_object.emit_symbols.Given as goal

abbrev pub invariant-loop-i : goal.invariant-loop-i
invariant-loop-i l = l.out.items ≡ map symbol_of (take l.i l.known)
