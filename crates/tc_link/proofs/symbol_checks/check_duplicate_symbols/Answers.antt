use Rattle.std.proofs.Common.{◌≡◌, ◌∙◌, true, false, Some, None, refl, sym, ap, ℕ, List, rules, tests}
use Rattle.std.specs.HashMap as table
use Rattle.std.specs.Option.{option_map}
use Rattle.std.proofs.lemmas.Iterator.Consumers.{YieldsList-from_rest}
use Rattle.std.proofs.lemmas.Iterator.{cases_from_all}
use Rattle.std.proofs.lemmas.Map.Views.{IfSome-lookup_from_All}
use Rattle.std.proofs.lemmas.Bool.{MatchBool-at_true}
use Rattle.std.proofs.lemmas.List.Elements.{All-from_all_within}
use Rattle.std.specs.Borrow.{Bor}
use Rattle.tc_object.specs.Objects.{ObjectData}
use Rattle.tc_link.specs.Refusals.{first_refusal_from, twice, duplicate_symbol_refusal, first_duplicate_symbol_refusal}
use Rattle.tc_link.specs.declared.definitions.Definition.{Definition}
use Rattle.tc_link.specs.GlobalSymbols.{global_at_name, count_globals_named}
use Rattle.tc_link.proofs.CountLaws.{single_at}
use Rattle.tc_link.proofs.FirstLaws.{more_item, found_item, first_end}
use Rattle.tc_link.proofs.TwiceLaws.{none_twice}
use Rattle.tc_link.proofs.symbol_checks.check_duplicate_symbols.Goals as goal

pub loop-object-init : goal.loop-object-init
unfolding first_refusal_from
loop-object-init c = refl

pub returns-in-Some-clause-err : goal.returns-in-Some-clause-err
unfolding first_duplicate_symbol_refusal
returns-in-Some-clause-err c =
    let x : ObjectData = c.object-item.result in
    let e : c.deref.result.now ≡ x.symbols = c.deref.ensures.value ∙ ap (λ (o : ObjectData). o.symbols) c.object.view_is in
    let inner : first_refusal_from (duplicate_symbol_refusal c.args.objects.now) 0 x.symbols ≡ Some (twice c.in-Some.name.now) =
    ap (first_refusal_from (duplicate_symbol_refusal c.args.objects.now) 0) (sym e) ∙ c.first_duplicate_symbol.ensures c.args.objects.now c.requires ∙ ap (option_map (λ (n : Bor (List ℕ)). twice n.now)) c.in-Some.is in
    found_item (λ _ (o : ObjectData). first_refusal_from (duplicate_symbol_refusal c.args.objects.now) 0 o.symbols) c.args.objects.now c.loop-object.object-index x (twice c.in-Some.name.now) c.loop-object-test.true c.object-item.is c.loop-object.invariant inner
    ∙ ap (λ (n : List ℕ). Some (twice n)) (sym c.in_ok-from_str.ensures.ok)

pub loop-object-preserved : goal.loop-object-preserved
loop-object-preserved c =
    let x : ObjectData = c.object-item.result in
    let e : c.deref.result.now ≡ x.symbols = c.deref.ensures.value ∙ ap (λ (o : ObjectData). o.symbols) c.object.view_is in
    let inner : first_refusal_from (duplicate_symbol_refusal c.args.objects.now) 0 x.symbols ≡ None =
    ap (first_refusal_from (duplicate_symbol_refusal c.args.objects.now) 0) (sym e) ∙ c.first_duplicate_symbol.ensures c.args.objects.now c.requires ∙ ap (option_map (λ (n : Bor (List ℕ)). twice n.now)) c.in_default.is in
    more_item (λ _ (o : ObjectData). first_refusal_from (duplicate_symbol_refusal c.args.objects.now) 0 o.symbols) c.args.objects.now c.loop-object.object-index x c.loop-object-test.true c.object-item.is c.loop-object.invariant inner

pub returns-clause-ok : goal.returns-clause-ok
unfolding first_duplicate_symbol_refusal
returns-clause-ok c = first_end (λ _ (o : ObjectData). first_refusal_from (duplicate_symbol_refusal c.args.objects.now) 0 o.symbols) c.args.objects.now c.loop-object.object-index c.loop-object-test.false c.loop-object.invariant

pub returns-then-all-clause-ok : goal.returns-then-all-clause-ok
returns-then-all-clause-ok c = none_twice c.args.objects.now (λ q.
    let r = cases_from_all _ _ _ (λ (d : Definition). d.is_twice ≡ false) (λ (d : Definition). d.is_twice ≡ true) c.all.ensures.ran (YieldsList-from_rest (table.values c.args.names.now) c.values.ensures.rest) (λ x r k. search (rules, tests)) (λ x r k. search (rules, tests)) in
    single_at (count_globals_named c.args.objects.now q) (global_at_name c.args.names.now q) (c.requires q)
    (IfSome-lookup_from_All (λ (d : Definition). d.is_twice ≡ false) _ c.args.names.now.entries (All-from_all_within (λ (d : Definition). d.is_twice ≡ false) (table.values c.args.names.now) (MatchBool-at_true _ _ c.if-all.true r))))
