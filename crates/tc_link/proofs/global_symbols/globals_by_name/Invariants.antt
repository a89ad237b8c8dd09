use Rattle.std.proofs.Common.{◌≡◌, List, take, map}
use Rattle.tc_link.specs.Placing.{PlacedData}
use Rattle.tc_link.specs.GlobalSymbols.{globals_of, HasCountedAllDefinitions, ResolvesGlobals}
use Rattle.tc_link.proofs.global_symbols.globals_by_name.Given as goal

abbrev pub invariant-loop-number : goal.invariant-loop-number
invariant-loop-number l = record {
  counts : HasCountedAllDefinitions l.names (take l.number l.objects);
  globals : (placed : List PlacedData) → map (λ p. p.object) placed ≡ l.objects → ResolvesGlobals l.names placed (globals_of (take l.number placed));
}
