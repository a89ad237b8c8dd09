use Rattle.std.proofs.Common.{◌∙◌, map, ap}
use Rattle.tc_asm.specs.Symbols.{with_symbol_entry, entry_in}
use Rattle.tc_asm.proofs.SymbolLaws.{known_of, insert-known, lookup-known}
use Rattle.tc_asm.proofs.symbols.Symbols.insert.Goals as goal

pub returns-clause-put : goal.returns-clause-put
returns-clause-put c = ap (map known_of) c.in_ok-insert.ensures.entries ∙ insert-known _ c.args.name c.args.entry ∙ ap (λ ss. with_symbol_entry ss c.args.name.now c.args.entry) c.self.view_is

pub returns-clause-old : goal.returns-clause-old
returns-clause-old c = c.in_ok-insert.ensures.old ∙ lookup-known _ c.args.name ∙ ap (λ ss. entry_in ss c.args.name.now) c.self.view_is
