use Rattle.std.proofs.Common.{sym, subst, rules, ◌∙◌, ◌≤◌, ℕ}
use Rattle.std.proofs.lemmas.Map.Entries.{length-keys_of}
use Rattle.depth_maker.proofs.RowSteps.{draft_none, rows_done}
use Rattle.depth_maker.proofs.rows.need_rows.Goals as goal

pub loop-entry-init : goal.loop-entry-init
loop-entry-init c = draft_none c.args.source.now _ _ c.new.ensures.items (c.in_ok-vec.ensures.items_if_clones_equal (λ y h. search rules))

pub returns : goal.returns
returns c =
    let s = c.args.source.now in
    rows_done s c.loop-entry.draft c.loop-entry.entry
    (subst (λ (n : ℕ). n ≤ c.loop-entry.entry) (c.len-entry-end.ensures.len ∙ sym (length-keys_of s.table.now.places.entries)) c.loop-entry-test.false) c.loop-entry.invariant
