use Rattle.std.proofs.Common.{◌≡◌, ◌<◌, ℕ, Bool, List, None, take, get_or, length}
use Rattle.tc_object.specs.Objects.{ObjectData}
use Rattle.tc_link.specs.Refusals.{first_refusal_from, missing_symbol_refusal, is_used_by_relocs}
use Rattle.tc_link.specs.GlobalSymbols.{HasCountedAllDefinitions}
use Rattle.tc_link.proofs.symbol_checks.first_missing_symbol.Given as goal

abbrev pub invariant-loop-reloc : goal.invariant-loop-reloc
invariant-loop-reloc l = record {
  used : (k : ℕ) (d : Bool) → k < length l.object.symbols → get_or l.used.items k d ≡ is_used_by_relocs (take l.reloc-index l.object.relocs) k;
  count : length l.used.items ≡ length l.object.symbols;
}

abbrev pub invariant-loop-number : goal.invariant-loop-number
invariant-loop-number l = (objects : List ObjectData) → HasCountedAllDefinitions l.names objects → first_refusal_from (missing_symbol_refusal objects l.object.relocs) 0 (take l.number l.object.symbols) ≡ None
