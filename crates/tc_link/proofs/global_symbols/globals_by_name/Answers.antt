use Rattle.std.proofs.Common.{◌≡◌, ◌+◌, ◌++◌, ◌∙◌, ℕ, List, None, ap, sym, map, take, rules}
use Rattle.std.specs.Prelude.{filter}
use Rattle.std.proofs.lemmas.List.{take_all}
use Rattle.std.specs.List.{count_by}
use Rattle.std.specs.Option.{option_map}
use Rattle.tc_object.specs.Objects.{SymbolData, ObjectData}
use Rattle.tc_link.specs.Placing.{PlacedData, definition_address}
use Rattle.tc_link.specs.GlobalSymbols.{GlobalData, is_global, global_data, globals_of, first_global_address, global_at_name, has_global_name, count_globals_named, twice_of_count}
use Rattle.tc_link.specs.declared.definitions.Definition.{Definition}
use Rattle.tc_link.proofs.CountLaws.{globals_more}
use Rattle.tc_link.proofs.GlobalLaws.{globals_next}
use Rattle.tc_link.proofs.PlacedLaws.{PlacedAt, placed_at, whole_placed}
use Rattle.tc_link.proofs.global_symbols.globals_by_name.Goals as goal

pub loop-number-init : goal.loop-number-init
unfolding count_globals_named globals_of
loop-number-init c =
    let none : (q : List ℕ) → global_at_name c.in_ok-names.names q ≡ None = λ q. search rules in
    record {
      counts = λ q. ap (option_map (λ (d : Definition). d.is_twice)) (none q);
      globals = λ placed same q. ap (option_map (definition_address placed)) (none q);
    }

pub loop-number-preserved : goal.loop-number-preserved
loop-number-preserved c =
    let i : ℕ = c.loop-number.number in
    let o : ObjectData = c.index-objects-number.result in
    let e : c.deref.result.now ≡ o.symbols = c.deref.ensures.value ∙ ap (λ (x : ObjectData). x.symbols) c.object.view_is in
    record {
      counts = λ q.
          let n : ℕ = count_globals_named (take i c.args.objects.now) q in
          c.in_ok-add_global_symbols.ensures.counts q n (c.loop-number.invariant.counts q)
          ∙ ap (λ (ss : List SymbolData). twice_of_count (n + count_by (has_global_name q) ss)) e
          ∙ ap twice_of_count (globals_more c.args.objects.now i o q c.loop-number-test.true c.index-objects-number.is);
      globals = λ placed same q.
          let at : PlacedAt placed i o = placed_at placed c.args.objects.now i o same c.loop-number-test.true c.index-objects-number.is in
          let p : PlacedData = at.placed in
          let sofar : List GlobalData = globals_of (take i placed) in
          c.in_ok-add_global_symbols.ensures.globals placed p sofar at.found (c.loop-number.invariant.globals placed same) q
          ∙ ap (λ (ss : List SymbolData). first_global_address (sofar ++ map (global_data p.bases) (filter is_global ss)) q) (e ∙ ap (λ (x : ObjectData). x.symbols) (sym at.object))
          ∙ ap (λ (gs : List GlobalData). first_global_address gs q) (globals_next placed i p at.within at.is);
    }

pub returns-clause-counts : goal.returns-clause-counts
returns-clause-counts c = λ q.
    c.loop-number.invariant.counts q
    ∙ ap (λ (os : List ObjectData). twice_of_count (count_globals_named os q)) (take_all c.loop-number.number c.args.objects.now c.loop-number-test.false)

pub returns-clause-globals : goal.returns-clause-globals
returns-clause-globals c = λ placed same q.
    c.loop-number.invariant.globals placed same q
    ∙ ap (λ (ps : List PlacedData). first_global_address (globals_of ps) q) (whole_placed placed c.args.objects.now c.loop-number.number same c.loop-number-test.false)
