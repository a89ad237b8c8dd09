use Rattle.std.proofs.Common.{◌≡◌, List, None, take}
use Rattle.tc_object.specs.Objects.{ObjectData}
use Rattle.tc_link.specs.Refusals.{first_refusal_from, duplicate_symbol_refusal}
use Rattle.tc_link.specs.GlobalSymbols.{HasCountedAllDefinitions}
use Rattle.tc_link.proofs.symbol_checks.first_duplicate_symbol.Given as goal

abbrev pub invariant-loop-symbol : goal.invariant-loop-symbol
invariant-loop-symbol l = (objects : List ObjectData) → HasCountedAllDefinitions l.names objects → first_refusal_from (duplicate_symbol_refusal objects) 0 (take l.symbol-index l.symbols) ≡ None
