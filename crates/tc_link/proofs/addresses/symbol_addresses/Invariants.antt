use Rattle.std.proofs.Common.{◌≡◌, List, take, map}
use Rattle.tc_link.specs.GlobalSymbols.{GlobalData, ResolvesGlobals}
use Rattle.tc_link.specs.Relocated.{symbol_address}
use Rattle.tc_link.proofs.addresses.symbol_addresses.Given as goal

abbrev pub invariant-loop-symbol : goal.invariant-loop-symbol
invariant-loop-symbol l = (all : List GlobalData) → ResolvesGlobals l.names l.placed all
    → l.addresses.items ≡ map (symbol_address all l.each.bases) (take l.symbol-index l.each.object.symbols)
