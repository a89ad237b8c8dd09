use Rattle.std.proofs.Common.{◌∙◌, ap}
use Rattle.std.specs.Prelude.{unwrap_or}
use Rattle.tc_asm.specs.Symbols.{symbol_number}
use Rattle.tc_asm.proofs.SymbolLaws.{position-known}
use Rattle.tc_asm.proofs.symbols.Symbols.number.Goals as goal

pub returns-clause-value : goal.returns-clause-value
returns-clause-value c = c.unwrap_or.ensures ∙ ap (λ o. unwrap_or o 0) (c.get_index_of.ensures.index ∙ position-known _ c.args.name) ∙ ap (λ ss. symbol_number ss c.args.name.now) c.self.view_is
