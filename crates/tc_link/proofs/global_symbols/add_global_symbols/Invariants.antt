use Rattle.std.proofs.Common.{◌≡◌, ◌+◌, ◌++◌, ℕ, List, take, map, Some}
use Rattle.std.specs.Prelude.{count_by, filter, slice_get}
use Rattle.tc_link.specs.Placing.{PlacedData}
use Rattle.tc_link.specs.GlobalSymbols.{GlobalData, is_global, global_data, has_global_name, twice_at, twice_of_count, ResolvesGlobals}
use Rattle.tc_link.proofs.global_symbols.add_global_symbols.Given as goal

abbrev pub invariant-loop-symbol : goal.invariant-loop-symbol
invariant-loop-symbol l = record {
  counts : (q : List ℕ) (n : ℕ) → twice_at l.initial.names q ≡ twice_of_count n → twice_at l.names q ≡ twice_of_count (n + count_by (has_global_name q) (take l.symbol-index l.symbols));
  globals : (placed : List PlacedData) (p : PlacedData) (before : List GlobalData) → slice_get placed l.object ≡ Some p → ResolvesGlobals l.initial.names placed before
      → ResolvesGlobals l.names placed (before ++ map (global_data p.bases) (filter is_global (take l.symbol-index l.symbols)));
}
