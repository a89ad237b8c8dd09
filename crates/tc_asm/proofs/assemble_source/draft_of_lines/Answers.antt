use Rattle.std.proofs.Common.{List, map, take, refl, ap, sym, subst, ◌∙◌, arith}
use Rattle.std.proofs.lemmas.List.{take_all}
use Rattle.tc_stmt.specs.declared.item.Item.{Item}
use Rattle.tc_stmt.specs.declared.source.Line.{Line}
use Rattle.tc_stmt.specs.Items.{item_of}
use Rattle.tc_stmt.specs.SourceViews.{lines_read, source_lines}
use Rattle.tc_asm.specs.KnownSymbols.{without_symbols_if}
use Rattle.tc_stmt.specs.Lines.{LineData}
use Rattle.tc_asm.specs.DraftedSources.{draft_from_lines}
use Rattle.tc_asm.specs.DraftInvariants.{IsWellFormedDraft}
use Rattle.tc_asm.proofs.Passes.{drafted_more, kept_more as rules_more, least_here, line_drafted, line_ruled, behind_here, read_here, read_behind}
use Rattle.tc_asm.proofs.KeptLaws.{IsDraft-start, IsDraft-more}
use Rattle.tc_asm.proofs.KnownSymbols.{kept_more, kept_line, new_lines, lines_end, past, blank_draft, blank_rule}
use Rattle.tc_asm.proofs.assemble_source.draft_of_lines.Goals as goal

pub loop-i-init : goal.loop-i-init
loop-i-init c = record {
  so_far = ap (without_symbols_if c.args.known) c.new-draft.ensures;
  whole = IsDraft-start;
  rules = λ k d less. absurd (omega arith);
  rest = sym (ap (λ (ls : List Line). lines_read ls (map item_of c.as_slice-rest.result.now)) c.as_slice-lines.ensures.value ∙ ap (λ (xs : List Item). lines_read c.args.source.now.lines.items (map item_of xs)) c.as_slice-rest.ensures.value);
  new = c.requires.known;
}

pub loop-i-preserved : goal.loop-i-preserved
loop-i-preserved c =
    let lines = c.as_slice-lines.result.now in
    let ls = source_lines c.args.source.now in
    let so_far = draft_from_lines c.args.labels.now (take c.loop-i.i ls) in
    let here = read_here lines c.loop-i.i _ c.loop-i.rest.now (omega arith) ls c.loop-i.invariant.rest in
    let rule = kept_line c.args.known c.args.labels.now ls c.loop-i.i _ _ here c.loop-i.draft c.loop-i.invariant.so_far c.loop-i.invariant.new _ (line_ruled c.args.known c.args.labels.now c.loop-i.rest.now _ _ _ _ _ c.loop-i.draft c.first_items-first.ensures c.in_ok-found.ensures.rule c.min-rule.ensures) in
    record {
      so_far = kept_more c.args.known c.args.labels.now ls c.loop-i.i _ _ here c.loop-i.draft c.loop-i.invariant.so_far _ (line_drafted c.args.known c.args.labels.now c.loop-i.rest.now _ _ _ c.loop-i.draft _ c.first_items-first.ensures c.in_ok-found.ensures.draft);
      whole = IsDraft-more c.args.labels.now so_far _ _ _ c.loop-i.invariant.whole (sym (drafted_more ls c.loop-i.i _ _ here c.args.labels.now so_far _ refl refl)) rule (omega arith);
      rules = rules_more ls c.loop-i.i _ _ here c.args.labels.now so_far _ c.requires.labels refl rule (omega arith) c.loop-i.invariant.rules;
      rest = behind_here ls c.loop-i.i _ _ here ∙ read_behind lines c.loop-i.i _ c.loop-i.rest.now (omega arith) _ c.later_items-rest.ensures;
      new = new_lines c.args.known c.args.labels.now ls c.loop-i.i _ _ here c.loop-i.draft c.loop-i.invariant.so_far c.loop-i.invariant.new;
    }

-- a line without items that breaks no rule by itself is passed over
pub loop-i-preserved-then-line-eq-NO_RULE : goal.loop-i-preserved-then-line-eq-NO_RULE
loop-i-preserved-then-line-eq-NO_RULE c =
    let lines = c.as_slice-lines.result.now in
    let ls = source_lines c.args.source.now in
    let so_far = draft_from_lines c.args.labels.now (take c.loop-i.i ls) in
    let here = read_here lines c.loop-i.i _ c.loop-i.rest.now (omega arith) ls c.loop-i.invariant.rest in
    let none = c.if-line-eq0.true in
    let rule = kept_line c.args.known c.args.labels.now ls c.loop-i.i _ _ here c.loop-i.draft c.loop-i.invariant.so_far c.loop-i.invariant.new 15 (blank_rule c.args.known c.args.labels.now c.loop-i.draft _ _ _ none c.if-line-eq-NO_RULE.true) in
    record {
      so_far = kept_more c.args.known c.args.labels.now ls c.loop-i.i _ _ here c.loop-i.draft c.loop-i.invariant.so_far c.loop-i.draft (blank_draft c.args.known c.args.labels.now c.loop-i.draft _ _ _ none);
      whole = IsDraft-more c.args.labels.now so_far _ _ _ c.loop-i.invariant.whole (sym (drafted_more ls c.loop-i.i _ _ here c.args.labels.now so_far _ refl refl)) rule refl;
      rules = rules_more ls c.loop-i.i _ _ here c.args.labels.now so_far _ c.requires.labels refl rule refl c.loop-i.invariant.rules;
      rest = behind_here ls c.loop-i.i _ _ here ∙ read_behind lines c.loop-i.i _ c.loop-i.rest.now (omega arith) _ (rw none refl);
      new = new_lines c.args.known c.args.labels.now ls c.loop-i.i _ _ here c.loop-i.draft c.loop-i.invariant.so_far c.loop-i.invariant.new;
    }

pub returns-then-rule-ne-NO_RULE-clause-bad : goal.returns-then-rule-ne-NO_RULE-clause-bad
returns-then-rule-ne-NO_RULE-clause-bad c =
    let ls = source_lines c.args.source.now in
    let here = read_here c.as_slice-lines.result.now c.loop-i.i _ c.loop-i.rest.now (omega arith) ls c.loop-i.invariant.rest in
    least_here ls c.loop-i.i _ _ here c.args.labels.now (draft_from_lines c.args.labels.now (take c.loop-i.i ls)) _ c.requires.labels refl
    (kept_line c.args.known c.args.labels.now ls c.loop-i.i _ _ here c.loop-i.draft c.loop-i.invariant.so_far c.loop-i.invariant.new _ (line_ruled c.args.known c.args.labels.now c.loop-i.rest.now _ _ _ _ _ c.loop-i.draft c.first_items-first.ensures c.in_ok-found.ensures.rule c.min-rule.ensures))
    c.if-rule-ne-NO_RULE.true c.loop-i.invariant.rules

pub returns-clause-ok : goal.returns-clause-ok
returns-clause-ok c = lines_end c.args.known c.args.labels.now (source_lines c.args.source.now) c.loop-i.i c.loop-i.draft (past c.args.source.now c.as_slice-lines.result.now c.loop-i.i c.as_slice-lines.ensures.value (omega arith)) c.loop-i.invariant.so_far

pub returns-clause-rules : goal.returns-clause-rules
returns-clause-rules c =
    let far = past c.args.source.now c.as_slice-lines.result.now c.loop-i.i c.as_slice-lines.ensures.value (omega arith) in
    λ k d less. c.loop-i.invariant.rules k d (omega arith)

pub returns-clause-whole : goal.returns-clause-whole
returns-clause-whole c =
    subst (λ (ls : List LineData). IsWellFormedDraft (draft_from_lines c.args.labels.now ls))
    (take_all c.loop-i.i (source_lines c.args.source.now) (past c.args.source.now c.as_slice-lines.result.now c.loop-i.i c.as_slice-lines.ensures.value (omega arith)))
    c.loop-i.invariant.whole
