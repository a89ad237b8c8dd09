use Rattle.std.proofs.Common.{◌∙◌, Some, refl, sym, ap, ℕ, List}
use Rattle.std.specs.Option.{option_map}
use Rattle.std.specs.Borrow.{Bor}
use Rattle.tc_object.specs.Objects.{ObjectData}
use Rattle.tc_link.specs.Refusals.{first_refusal_from, missing, missing_symbol_refusal, first_missing_symbol_refusal}
use Rattle.tc_link.proofs.FirstLaws.{more_item, found_item, first_end}
use Rattle.tc_link.proofs.symbol_checks.check_missing_symbols.Goals as goal

pub loop-object-init : goal.loop-object-init
unfolding first_refusal_from
loop-object-init c = refl

pub returns-in-Some-clause-err : goal.returns-in-Some-clause-err
unfolding first_missing_symbol_refusal
returns-in-Some-clause-err c =
    found_item (λ _ (o : ObjectData). first_refusal_from (missing_symbol_refusal c.args.objects.now o.relocs) 0 o.symbols) c.args.objects.now c.loop-object.object-index c.object-item.result (missing c.in-Some.name.now) c.loop-object-test.true c.object-item.is c.loop-object.invariant
    (c.in_ok-name.ensures.ok c.args.objects.now c.requires ∙ ap (option_map (λ (n : Bor (List ℕ)). missing n.now)) c.in-Some.is)
    ∙ ap (λ (n : List ℕ). Some (missing n)) (sym c.in_ok-from_str.ensures.ok)

pub loop-object-preserved : goal.loop-object-preserved
loop-object-preserved c =
    more_item (λ _ (o : ObjectData). first_refusal_from (missing_symbol_refusal c.args.objects.now o.relocs) 0 o.symbols) c.args.objects.now c.loop-object.object-index c.object-item.result c.loop-object-test.true c.object-item.is c.loop-object.invariant
    (c.in_ok-name.ensures.ok c.args.objects.now c.requires ∙ ap (option_map (λ (n : Bor (List ℕ)). missing n.now)) c.in_default.is)

pub returns-clause-ok : goal.returns-clause-ok
unfolding first_missing_symbol_refusal
returns-clause-ok c = first_end (λ _ (o : ObjectData). first_refusal_from (missing_symbol_refusal c.args.objects.now o.relocs) 0 o.symbols) c.args.objects.now c.loop-object.object-index c.loop-object-test.false c.loop-object.invariant
