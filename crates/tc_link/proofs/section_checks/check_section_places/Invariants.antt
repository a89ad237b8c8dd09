use Rattle.std.proofs.Common.{◌≡◌, None, take}
use Rattle.tc_link.specs.Refusals.{first_refusal_from, no_place_refusal}
use Rattle.tc_link.proofs.section_checks.check_section_places.Given as goal

abbrev pub invariant-loop-object : goal.invariant-loop-object
invariant-loop-object l = first_refusal_from (λ _ o. first_refusal_from (no_place_refusal l.layout.places o.symbols) 0 o.sections) 0 (take l.object-index l.objects) ≡ None
