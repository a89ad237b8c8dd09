use Rattle.std.proofs.Common.{◌≡◌, ◌<◌, ◌&&◌, ◌∙◌, Bool, Some, refl, sym, ap, subst, arith, ℕ, List, length, get_or, eqb}
use Rattle.std.proofs.lemmas.List.{take_all}
use Rattle.tc_object.specs.declared.relocs.Reloc.{Reloc}
use Rattle.tc_object.specs.Objects.{SymbolData, ObjectData}
use Rattle.tc_link.specs.Refusals.{first_refusal_from, missing, missing_symbol_refusal, is_used_by_relocs}
use Rattle.tc_link.specs.GlobalSymbols.{count_globals_named}
use Rattle.tc_link.proofs.FirstLaws.{more_item, found_item, then_yes, then_no}
use Rattle.tc_link.proofs.symbol_checks.first_missing_symbol.Goals as goal

pub loop-number-init : goal.loop-number-init
unfolding first_refusal_from
loop-number-init c = λ objects h. refl

pub returns-then-is_missing_symbol-clause-ok : goal.returns-then-is_missing_symbol-clause-ok
returns-then-is_missing_symbol-clause-ok c = λ objects h.
    let o : ObjectData = c.args.object.now in
    let i : ℕ = c.loop-number.number in
    let x : SymbolData = c.symbol-item.result in
    let e : c.deref-symbol-items.result.now ≡ o.symbols = c.deref-symbol-items.ensures.value ∙ ap (λ (y : ObjectData). y.symbols) c.object.view_is in
    let within = subst (λ (l : List SymbolData). i < length l) e c.loop-number-test.true in
    let at = c.symbol-item.is ∙ ap (λ (l : List SymbolData). get_or l i x) e in
    let many : length c.deref-reloc-items.result.now ≡ length o.relocs = ap (λ (l : List Reloc). length l) (c.deref-reloc-items.ensures.value ∙ ap (λ (y : ObjectData). y.relocs) c.object.view_is) in
    let used = c.index.ensures ∙ c.loop-reloc.invariant.used i c.index.result.now within ∙ ap (λ (l : List Reloc). is_used_by_relocs l i) (take_all c.loop-reloc.reloc-index o.relocs (omega (arith, c.loop-reloc-test.false, many))) in
    found_item (missing_symbol_refusal objects o.relocs) o.symbols i x (missing x.name) within at (c.loop-number.invariant objects h)
    (then_yes (eqb x.kind 0 && is_used_by_relocs o.relocs i && eqb (count_globals_named objects x.name) 0) c.is_missing_symbol.result (missing x.name)
    (c.is_missing_symbol.ensures objects h ∙ ap (λ (b : Bool). eqb x.kind 0 && b && eqb (count_globals_named objects x.name) 0) used) c.if-is_missing_symbol.true)
    ∙ ap (λ (y : SymbolData). Some (missing y.name)) (sym c.symbol.view_is)

pub loop-number-preserved : goal.loop-number-preserved
loop-number-preserved c = λ objects h.
    let o : ObjectData = c.args.object.now in
    let i : ℕ = c.loop-number.number in
    let x : SymbolData = c.symbol-item.result in
    let e : c.deref-symbol-items.result.now ≡ o.symbols = c.deref-symbol-items.ensures.value ∙ ap (λ (y : ObjectData). y.symbols) c.object.view_is in
    let within = subst (λ (l : List SymbolData). i < length l) e c.loop-number-test.true in
    let at = c.symbol-item.is ∙ ap (λ (l : List SymbolData). get_or l i x) e in
    let many : length c.deref-reloc-items.result.now ≡ length o.relocs = ap (λ (l : List Reloc). length l) (c.deref-reloc-items.ensures.value ∙ ap (λ (y : ObjectData). y.relocs) c.object.view_is) in
    let used = c.index.ensures ∙ c.loop-reloc.invariant.used i c.index.result.now within ∙ ap (λ (l : List Reloc). is_used_by_relocs l i) (take_all c.loop-reloc.reloc-index o.relocs (omega (arith, c.loop-reloc-test.false, many))) in
    more_item (missing_symbol_refusal objects o.relocs) o.symbols i x within at (c.loop-number.invariant objects h)
    (then_no (eqb x.kind 0 && is_used_by_relocs o.relocs i && eqb (count_globals_named objects x.name) 0) c.is_missing_symbol.result (missing x.name)
    (c.is_missing_symbol.ensures objects h ∙ ap (λ (b : Bool). eqb x.kind 0 && b && eqb (count_globals_named objects x.name) 0) used) c.if-is_missing_symbol.false)
