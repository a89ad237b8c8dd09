use Rattle.std.proofs.Common.{◌≡◌, ◌<◌, ℕ, Bool, None, take, get_or, length}
use Rattle.tc_link.specs.Refusals.{first_refusal_from, no_place_refusal, has_symbol_in_section}
use Rattle.tc_link.proofs.section_checks.first_unplaced_section.Given as goal

abbrev pub invariant-loop-symbol : goal.invariant-loop-symbol
invariant-loop-symbol l = record {
  held : (k : ℕ) (d : Bool) → k < length l.object.sections → get_or l.held.items k d ≡ has_symbol_in_section (take l.symbol-index l.object.symbols) k;
  count : length l.held.items ≡ length l.object.sections;
}

abbrev pub invariant-loop-number : goal.invariant-loop-number
invariant-loop-number l = first_refusal_from (no_place_refusal l.layout.places l.object.symbols) 0 (take l.number l.object.sections) ≡ None
