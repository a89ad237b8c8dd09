use Rattle.std.proofs.Common.{List, ℕ, [], ◌∷◌, take, None, Some, ap, sym, ◌∙◌}
use Rattle.tc_stmt.specs.Items.{ReferenceData, reference_of, item_of, bytes}
use Rattle.tc_stmt.specs.declared.item.Item.{Item}
use Rattle.tc_asm.specs.Drafts.{draft_after_item, with_bytes_if_room, with_reference}
use Rattle.tc_asm.specs.Rules.{rule_broken_by_item}
use Rattle.tc_asm.specs.KnownSymbols.{without_symbols}
use Rattle.tc_asm.proofs.KnownSymbols.{label_unchanged, global_unchanged, on_ok, if_ok, plain_rule, section_rule_same, zeros_rule_same, plain_data_rule, data_rule, data_step}
use Rattle.tc_asm.proofs.draft.Draft.check_and_add_item_without_symbol.Goals as goal

pub returns-in-Label-clause-draft : goal.returns-in-Label-clause-draft
returns-in-Label-clause-draft c =
    label_unchanged c.args.labels.now c.args.self.now c.in-Label.name.now
    ∙ ap (λ (i : Item). without_symbols (draft_after_item c.args.labels.now c.args.self.now (item_of i))) (sym c.in-Label.is)

pub returns-in-Global-clause-draft : goal.returns-in-Global-clause-draft
returns-in-Global-clause-draft c =
    global_unchanged c.args.labels.now c.args.self.now c.in-Global.name.now
    ∙ ap (λ (i : Item). without_symbols (draft_after_item c.args.labels.now c.args.self.now (item_of i))) (sym c.in-Global.is)

pub returns-in-Code-clause-rule : goal.returns-in-Code-clause-rule
returns-in-Code-clause-rule c =
    if_ok c.check_and_add_code.result _ _ c.check_and_add_code.ensures.rule
    (λ rule h.
    h
    ∙ plain_rule c.args.labels.now c.args.self.now c.in-Code.row c.in-Code.fields
    ∙ ap (λ (i : Item). rule_broken_by_item c.args.labels.now (without_symbols c.args.self.now) (item_of i)) (sym c.in-Code.is))

pub returns-in-Data-clause-draft : goal.returns-in-Data-clause-draft
unfolding with_bytes_if_room with_reference
returns-in-Data-clause-draft c =
    on_ok c.check_and_add_bytes.result _ _ c.check_and_add_bytes.ensures.draft
    (λ h.
    ap without_symbols h
    ∙ ap without_symbols (data_step c.args.labels.now c.args.self.now c.first_assembled_bytes.result.now None)
    ∙ ap (λ (bs : List ℕ). without_symbols (draft_after_item c.args.labels.now c.args.self.now (bytes bs None))) c.first_assembled_bytes.ensures
    ∙ ap (λ (i : Item). without_symbols (draft_after_item c.args.labels.now c.args.self.now (item_of i))) (sym c.in-Data.is))

pub returns-in-Data-clause-rule : goal.returns-in-Data-clause-rule
returns-in-Data-clause-rule c =
    if_ok c.check_and_add_bytes.result _ _ c.check_and_add_bytes.ensures.rule
    (λ rule h.
    h
    ∙ plain_data_rule c.args.labels.now c.args.self.now c.first_assembled_bytes.result.now
    ∙ ap (λ (bs : List ℕ). rule_broken_by_item c.args.labels.now (without_symbols c.args.self.now) (bytes bs None)) c.first_assembled_bytes.ensures
    ∙ ap (λ (i : Item). rule_broken_by_item c.args.labels.now (without_symbols c.args.self.now) (item_of i)) (sym c.in-Data.is))

pub returns-in-Word-clause-draft : goal.returns-in-Word-clause-draft
returns-in-Word-clause-draft c =
    on_ok c.check_and_add_reference.result _ _ c.check_and_add_reference.ensures.draft
    (λ h.
    h
    ∙ ap without_symbols (data_step c.args.labels.now c.args.self.now c.first_assembled_bytes-in-Word.result.now (Some (reference_of c.reference_to-r-in-Word.result)))
    ∙ ap (λ (bs : List ℕ). without_symbols (draft_after_item c.args.labels.now c.args.self.now (bytes bs (Some (reference_of c.reference_to-r-in-Word.result))))) c.first_assembled_bytes-in-Word.ensures
    ∙ ap (λ (r : ReferenceData). without_symbols (draft_after_item c.args.labels.now c.args.self.now (bytes (take c.in-Word.len (0 ∷ 0 ∷ 0 ∷ 0 ∷ [])) (Some r)))) c.reference_to-r-in-Word.ensures
    ∙ ap (λ (i : Item). without_symbols (draft_after_item c.args.labels.now c.args.self.now (item_of i))) (sym c.in-Word.is))

pub returns-in-Word-clause-rule : goal.returns-in-Word-clause-rule
returns-in-Word-clause-rule c =
    if_ok c.check_and_add_reference.result _ _ c.check_and_add_reference.ensures.rule
    (λ rule h.
    h
    ∙ data_rule c.args.labels.now c.args.self.now c.first_assembled_bytes-in-Word.result.now (Some (reference_of c.reference_to-r-in-Word.result))
    ∙ ap (λ (bs : List ℕ). rule_broken_by_item c.args.labels.now (without_symbols c.args.self.now) (bytes bs (Some (reference_of c.reference_to-r-in-Word.result)))) c.first_assembled_bytes-in-Word.ensures
    ∙ ap (λ (r : ReferenceData). rule_broken_by_item c.args.labels.now (without_symbols c.args.self.now) (bytes (take c.in-Word.len (0 ∷ 0 ∷ 0 ∷ 0 ∷ [])) (Some r))) c.reference_to-r-in-Word.ensures
    ∙ ap (λ (i : Item). rule_broken_by_item c.args.labels.now (without_symbols c.args.self.now) (item_of i)) (sym c.in-Word.is))

pub returns-in-Section-clause-rule : goal.returns-in-Section-clause-rule
returns-in-Section-clause-rule c =
    if_ok c.check_and_add_item_with_symbol.result _ _ c.check_and_add_item_with_symbol.ensures.rule
    (λ rule h.
    h
    ∙ ap (λ (i : Item). rule_broken_by_item c.args.labels.now c.args.self.now (item_of i)) c.in-Section.is
    ∙ section_rule_same c.args.labels.now c.args.self.now c.in-Section.field-0.now
    ∙ ap (λ (i : Item). rule_broken_by_item c.args.labels.now (without_symbols c.args.self.now) (item_of i)) (sym c.in-Section.is))

pub returns-in-Zeros-clause-rule : goal.returns-in-Zeros-clause-rule
returns-in-Zeros-clause-rule c =
    if_ok c.check_and_add_item_with_symbol-in-Zeros.result _ _ c.check_and_add_item_with_symbol-in-Zeros.ensures.rule
    (λ rule h.
    h
    ∙ ap (λ (i : Item). rule_broken_by_item c.args.labels.now c.args.self.now (item_of i)) c.in-Zeros.is
    ∙ zeros_rule_same c.args.labels.now c.args.self.now c.in-Zeros.field-0
    ∙ ap (λ (i : Item). rule_broken_by_item c.args.labels.now (without_symbols c.args.self.now) (item_of i)) (sym c.in-Zeros.is))
