use Rattle.std.proofs.Common.{◌≤◌, ◌+◌, ◌^◌, ◌∙◌, ap, sym, subst, length, map, fold, [], arith}
use Rattle.tc_asm.specs.DraftInvariants.{IsWellFormedDraft}
use Rattle.tc_stmt.specs.Items.{item_of}
use Rattle.tc_asm.specs.Drafts.{DraftData, draft_after_item}
use Rattle.tc_asm.specs.KnownSymbols.{are_new_with_room}
use Rattle.tc_stmt.proofs.ReadLines.{few_read}
use Rattle.tc_asm.proofs.Passes.{object_source, kept_source, labels_source}
use Rattle.tc_asm.proofs.AlikeDrafts.{items_all}
use Rattle.tc_asm.proofs.KnownSymbols.{whole_draft, symbols_again, new_again}
use Rattle.tc_asm.proofs.assemble_source.assemble.Goals as goal

pub scan_items-requires : goal.scan_items-requires
scan_items-requires c = items_all c.args.source.now c.deref.result.now (ap (map item_of) c.deref.ensures.value ∙ c.in_ok-read.ensures.items)

pub draft_of_lines-requires-clause-few : goal.draft_of_lines-requires-clause-few
draft_of_lines-requires-clause-few c =
    let few : length c.in_ok-read.read.lines.items ≤ length c.args.source.now + 1 = few_read c.args.source.now c.in_ok-read.read.lines.items (map item_of c.in_ok-read.read.items.items) c.in_ok-read.ensures.lines in
    let small : length c.args.source.now ≤ 2 ^ 30 = c.requires in
    omega arith

pub draft_of_lines-requires-clause-labels : goal.draft_of_lines-requires-clause-labels
draft_of_lines-requires-clause-labels c = labels_source c.args.source.now c.in_ok-read.read c.deref.result.now _ (ap (λ (d : DraftData). d.symbols) c.first.view_is ∙ c.in_ok-known.ensures.symbols ∙ ap (λ d. (fold (draft_after_item []) d (map item_of c.deref.result.now)).symbols) c.new-first.ensures) c.deref.ensures.value c.in_ok-read.ensures.items c.in_ok-read.ensures.lines

pub draft_of_lines-requires-clause-known : goal.draft_of_lines-requires-clause-known
draft_of_lines-requires-clause-known c =
    new_again c.args.source.now c.in_ok-read.read c.in_ok-read.ensures.lines _
    (labels_source c.args.source.now c.in_ok-read.read c.deref.result.now _ (ap (λ (d : DraftData). d.symbols) c.first.view_is ∙ c.in_ok-known.ensures.symbols ∙ ap (λ d. (fold (draft_after_item []) d (map item_of c.deref.result.now)).symbols) c.new-first.ensures) c.deref.ensures.value c.in_ok-read.ensures.items c.in_ok-read.ensures.lines)
    c.deref.result.now c.deref.ensures.value c.in_ok-read.ensures.items _ (c.in_ok-known.ensures.new ∙ ap (λ d. are_new_with_room [] d (map item_of c.deref.result.now)) c.new-first.ensures)

pub emit_object-requires : goal.emit_object-requires
emit_object-requires c =
    subst IsWellFormedDraft
    (sym (whole_draft _ _ _ _ _ c.in_ok-draft.ensures.ok
    (symbols_again c.args.source.now c.in_ok-read.read c.in_ok-read.ensures.lines _
    (labels_source c.args.source.now c.in_ok-read.read c.deref.result.now _ (ap (λ (d : DraftData). d.symbols) c.first.view_is ∙ c.in_ok-known.ensures.symbols ∙ ap (λ d. (fold (draft_after_item []) d (map item_of c.deref.result.now)).symbols) c.new-first.ensures) c.deref.ensures.value c.in_ok-read.ensures.items c.in_ok-read.ensures.lines))
    c.draft_with_known_symbols.ensures))
    c.in_ok-draft.ensures.whole

pub returns-clause-ok : goal.returns-clause-ok
returns-clause-ok c =
    let same = labels_source c.args.source.now c.in_ok-read.read c.deref.result.now _ (ap (λ (d : DraftData). d.symbols) c.first.view_is ∙ c.in_ok-known.ensures.symbols ∙ ap (λ d. (fold (draft_after_item []) d (map item_of c.deref.result.now)).symbols) c.new-first.ensures) c.deref.ensures.value c.in_ok-read.ensures.items c.in_ok-read.ensures.lines in
    object_source c.args.source.now c.in_ok-read.read c.in_ok-read.ensures.lines _ _ _ c.in_ok-emit_object.ensures
    (whole_draft _ _ _ _ _ c.in_ok-draft.ensures.ok (symbols_again c.args.source.now c.in_ok-read.read c.in_ok-read.ensures.lines _ same) c.draft_with_known_symbols.ensures)
    same

pub returns-clause-kept : goal.returns-clause-kept
returns-clause-kept c = kept_source c.args.source.now c.in_ok-read.read c.in_ok-read.ensures.lines c.in_ok-draft.ensures.rules
