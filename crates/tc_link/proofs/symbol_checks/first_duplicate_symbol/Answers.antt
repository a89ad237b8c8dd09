use Rattle.std.proofs.Common.{◌∙◌, Some, refl, sym, ap, ℕ, List}
use Rattle.tc_object.specs.Objects.{SymbolData}
use Rattle.tc_link.specs.Refusals.{first_refusal_from, twice, duplicate_symbol_refusal}
use Rattle.tc_link.proofs.FirstLaws.{more_item, found_item, then_yes, then_no}
use Rattle.tc_link.proofs.symbol_checks.first_duplicate_symbol.Goals as goal

pub loop-symbol-init : goal.loop-symbol-init
unfolding first_refusal_from
loop-symbol-init c = λ objects h. refl

pub returns-then-is_duplicate_symbol : goal.returns-then-is_duplicate_symbol
returns-then-is_duplicate_symbol c = λ objects h.
    let x : SymbolData = c.symbol-item.result in
    found_item (duplicate_symbol_refusal objects) c.args.symbols.now c.loop-symbol.symbol-index x (twice x.name) c.loop-symbol-test.true c.symbol-item.is (c.loop-symbol.invariant objects h)
    (then_yes _ c.is_duplicate_symbol.result (twice x.name) (c.is_duplicate_symbol.ensures objects h) c.if-is_duplicate_symbol.true)
    ∙ ap (λ (n : List ℕ). Some (twice n)) (sym (ap (λ (s : SymbolData). s.name) c.symbol.view_is))

pub loop-symbol-preserved : goal.loop-symbol-preserved
loop-symbol-preserved c = λ objects h.
    let x : SymbolData = c.symbol-item.result in
    more_item (duplicate_symbol_refusal objects) c.args.symbols.now c.loop-symbol.symbol-index x c.loop-symbol-test.true c.symbol-item.is (c.loop-symbol.invariant objects h)
    (then_no _ c.is_duplicate_symbol.result (twice x.name) (c.is_duplicate_symbol.ensures objects h) c.if-is_duplicate_symbol.false)
