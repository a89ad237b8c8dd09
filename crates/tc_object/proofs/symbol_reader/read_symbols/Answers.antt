use Rattle.std.proofs.Common.{◌≡◌, ◌∙◌, ℕ, List, Bool, ap, sym}
use Rattle.std.proofs.lemmas.Result.{err_from_is_err_and}
use Rattle.tcd_base.specs.Place.{Place}
use Rattle.tc_object.specs.Grammar.{new_symbol_at, symbol_with_new_name}
use Rattle.tc_object.specs.Objects.{SectionData, SymbolData, is_symbol_name}
use Rattle.tc_object.specs.Used.{is_used_name}
use Rattle.tcd_base.proofs.ManyLaws.{many_more, many_end}
use Rattle.tc_object.proofs.ManyLaws.{many_fault}
use Rattle.tc_object.proofs.UsedLaws.{used_more, same_test}
use Rattle.tc_object.proofs.symbol_reader.read_symbols.Goals as goal

-- the map holds exactly the names of the items so far
by_names : (sections : List SectionData) (items : List SymbolData) (among : List ℕ → Bool) → ((q : List ℕ) → among q ≡ is_symbol_name items q) → (p : Place) → new_symbol_at sections items p ≡ symbol_with_new_name sections among p
unfolding new_symbol_at
by_names sections items among same p = ap (λ (f : List ℕ → Bool). symbol_with_new_name sections f p) (sym (same_test among (is_symbol_name items) same))

pub returns-in_err-symbol-clause-err : goal.returns-in_err-symbol-clause-err
returns-in_err-symbol-clause-err c =
    let fault = many_fault (new_symbol_at c.args.sections.now) c.args.count c.loop-i._i c.loop-i.symbols.items c.args.c.now c.loop-i.c c.in_err-symbol.field-0.0 c.loop-i-test.true c.loop-i.invariant.read
    (rw (by_names c.args.sections.now c.loop-i.symbols.items (is_used_name c.loop-i.names) c.loop-i.invariant.names c.loop-i.c) c.in_err-symbol.ensures.err) in
    let p = err_from_is_err_and c.from_residual-in_err-symbol.result c.from_residual-in_err-symbol.ensures.1 in
    rw (p.1, p.2) fault

pub loop-i-preserved : goal.loop-i-preserved
loop-i-preserved c = record {
  read =
      rw c.in_ok-push.ensures.items
      (many_more (new_symbol_at c.args.sections.now) c.args.count c.loop-i._i c.loop-i.symbols.items c.args.c.now c.loop-i.c _ _ c.loop-i-test.true c.loop-i.invariant.read
      (by_names c.args.sections.now c.loop-i.symbols.items (is_used_name c.loop-i.names) c.loop-i.invariant.names c.loop-i.c ∙ c.in_ok-symbol.ensures.ok));
  names = rw c.in_ok-push.ensures.items (used_more (λ (x : SymbolData). x.name) c.loop-i.symbols.items c.in_ok-symbol.symbol (is_used_name c.loop-i.names) _ c.loop-i.invariant.names c.in_ok-symbol.ensures.names);
}

pub returns-clause-ok : goal.returns-clause-ok
returns-clause-ok c = many_end (new_symbol_at c.args.sections.now) c.args.count c.loop-i._i c.loop-i.symbols.items c.args.c.now c.loop-i.c c.loop-i-test.false c.loop-i.invariant.read
