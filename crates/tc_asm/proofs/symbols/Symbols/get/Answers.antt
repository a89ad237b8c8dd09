use Rattle.std.proofs.Common.{◌∙◌, ap}
use Rattle.tc_asm.specs.Symbols.{entry_in}
use Rattle.tc_asm.proofs.SymbolLaws.{lookup-known}
use Rattle.tc_asm.proofs.symbols.Symbols.get.Goals as goal

pub returns : goal.returns
returns c = c.copied.ensures ∙ c.get.ensures.value ∙ lookup-known _ c.args.name ∙ ap (λ ss. entry_in ss c.args.name.now) c.self.view_is
