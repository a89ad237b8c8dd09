use Rattle.std.proofs.Common.{◌∙◌, Some, refl, sym, ap, ℕ, List}
use Rattle.std.specs.Option.{option_map}
use Rattle.std.specs.Borrow.{Bor}
use Rattle.tc_object.specs.Objects.{ObjectData}
use Rattle.tc_link.specs.Refusals.{first_refusal_from, no_place, no_place_refusal, first_no_place_refusal}
use Rattle.tc_link.proofs.FirstLaws.{more_item, found_item, first_end}
use Rattle.tc_link.proofs.section_checks.check_section_places.Goals as goal

pub loop-object-init : goal.loop-object-init
unfolding first_refusal_from
loop-object-init c = refl

pub returns-in-Some-clause-err : goal.returns-in-Some-clause-err
unfolding first_no_place_refusal
returns-in-Some-clause-err c =
    found_item (λ _ (o : ObjectData). first_refusal_from (no_place_refusal c.args.layout.now.places o.symbols) 0 o.sections) c.args.objects.now c.loop-object.object-index c.object-item.result (no_place c.in-Some.name.now) c.loop-object-test.true c.object-item.is c.loop-object.invariant
    (c.in_ok-name.ensures.ok ∙ ap (option_map (λ (n : Bor (List ℕ)). no_place n.now)) c.in-Some.is)
    ∙ ap (λ (n : List ℕ). Some (no_place n)) (sym c.in_ok-from_str.ensures.ok)

pub loop-object-preserved : goal.loop-object-preserved
loop-object-preserved c =
    more_item (λ _ (o : ObjectData). first_refusal_from (no_place_refusal c.args.layout.now.places o.symbols) 0 o.sections) c.args.objects.now c.loop-object.object-index c.object-item.result c.loop-object-test.true c.object-item.is c.loop-object.invariant
    (c.in_ok-name.ensures.ok ∙ ap (option_map (λ (n : Bor (List ℕ)). no_place n.now)) c.in_default.is)

pub returns-clause-ok : goal.returns-clause-ok
unfolding first_no_place_refusal
returns-clause-ok c = first_end (λ _ (o : ObjectData). first_refusal_from (no_place_refusal c.args.layout.now.places o.symbols) 0 o.sections) c.args.objects.now c.loop-object.object-index c.loop-object-test.false c.loop-object.invariant
