use Rattle.std.proofs.Common.{◌≡◌, None, take}
use Rattle.tc_link.specs.Refusals.{first_refusal_from, duplicate_symbol_refusal}
use Rattle.tc_link.proofs.symbol_checks.check_duplicate_symbols.Given as goal

abbrev pub invariant-loop-object : goal.invariant-loop-object
invariant-loop-object l = first_refusal_from (λ _ o. first_refusal_from (duplicate_symbol_refusal l.objects) 0 o.symbols) 0 (take l.object-index l.objects) ≡ None
