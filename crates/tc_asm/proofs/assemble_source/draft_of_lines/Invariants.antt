use Rattle.std.proofs.Common.{◌≡◌, true, take, drop, map}
use Rattle.tc_stmt.specs.Items.{item_of}
use Rattle.tc_stmt.specs.Lines.{items_in}
use Rattle.tc_asm.specs.DraftedSources.{draft_from_lines}
use Rattle.tc_asm.specs.Rules.{LinesKeepRules}
use Rattle.tc_asm.specs.DraftInvariants.{IsWellFormedDraft}
use Rattle.tc_asm.specs.KnownSymbols.{without_symbols_if, are_new_with_room}
use Rattle.tc_stmt.specs.SourceViews.{lines_read, source_lines}
use Rattle.tc_asm.proofs.assemble_source.draft_of_lines.Given as goal

abbrev pub invariant-loop-i : goal.invariant-loop-i
invariant-loop-i l = record {
  so_far : without_symbols_if l.known l.draft ≡ without_symbols_if l.known (draft_from_lines l.labels (take l.i (source_lines l.source)));
  whole : IsWellFormedDraft (draft_from_lines l.labels (take l.i (source_lines l.source)));
  rules : LinesKeepRules (source_lines l.source) l.i;
  rest : drop l.i (source_lines l.source) ≡ lines_read (drop l.i l.lines) (map item_of l.rest);
  new : l.known ≡ true → are_new_with_room l.labels (draft_from_lines l.labels (take l.i (source_lines l.source))) (items_in (drop l.i (source_lines l.source))) ≡ true;
}
