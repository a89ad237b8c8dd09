use Rattle.std.proofs.Common.{◌∙◌, ap, sym}
use Rattle.std.specs.Prelude.{unwrap_or}
use Rattle.tc_asm.specs.Symbols.{with_symbol_entry, undefined_entry}
use Rattle.tc_asm.proofs.SymbolLaws.{labelled_new, labelled_known}
use Rattle.tc_asm.proofs.symbols.Symbols.define.Goals as goal

pub returns-in-None-clause-symbols : goal.returns-in-None-clause-symbols
returns-in-None-clause-symbols c =
    labelled_new c.args.self.now _ c.args.name.now c.args.place _ c.in_ok-insert.ensures.old c.in-None.is
    c.in_ok-insert.ensures.put

pub returns-in-None-clause-before : goal.returns-in-None-clause-before
returns-in-None-clause-before c = ap (λ o. (unwrap_or o undefined_entry).place) (sym c.in-None.is ∙ c.in_ok-insert.ensures.old)

pub returns-in_ok-insert-in-Some-clause-symbols : goal.returns-in_ok-insert-in-Some-clause-symbols
returns-in_ok-insert-in-Some-clause-symbols c =
    labelled_known c.args.self.now c.insert.new.self _ c.args.name.now c.args.place _ c.in-Some.old c.in_ok-insert.ensures.old c.in-Some.is
    c.in_ok-insert.ensures.put
    (c.in_ok-insert-in-Some.ensures.put ∙ ap (with_symbol_entry c.insert.new.self c.args.name.now) c.entry_with_label.ensures)

pub returns-in_ok-insert-in-Some-clause-before : goal.returns-in_ok-insert-in-Some-clause-before
returns-in_ok-insert-in-Some-clause-before c = ap (λ o. (unwrap_or o undefined_entry).place) (sym c.in-Some.is ∙ c.in_ok-insert.ensures.old)
