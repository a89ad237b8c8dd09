use Rattle.std.proofs.Common.{ap, sym, ◌∙◌}
use Rattle.std.specs.Prelude.{option_map}
use Rattle.tc_stmt.specs.Items.{reference_of}
use Rattle.tc_asm.specs.Drafts.{with_reference}
use Rattle.tc_asm.proofs.AlikeDrafts.{see_named}
use Rattle.tc_asm.proofs.draft.Draft.add_symbol_of_reference.Goals as goal

pub returns-in_ok-add_symbol_name-in-Some : goal.returns-in_ok-add_symbol_name-in-Some
returns-in_ok-add_symbol_name-in-Some c =
    see_named c.args.self.now _ _ (c.requires _ (ap (option_map reference_of) c.in-Some.is)) c.in_ok-add_symbol_name-in-Some.ensures
    ∙ ap (λ o. with_reference c.args.self.now 0 (option_map reference_of o)) (sym c.in-Some.is)
