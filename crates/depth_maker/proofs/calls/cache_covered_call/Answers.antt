use Rattle.std.proofs.Common.{List, ◌∷◌, ap, subst, sym, ◌∙◌}
use Rattle.depth_maker.specs.Covered.{AreLastCallsCovered}
use Rattle.depth_maker.specs.declared.last_call.LastCall.{LastCall}
use Rattle.depth_maker.specs.TableView.{view_of_table}
use Rattle.depth_maker.proofs.CoveredLaws.{call_new, calls_after}
use Rattle.depth_maker.proofs.NotedCalls.{call_noted}
use Rattle.depth_maker.proofs.calls.cache_covered_call.Goals as goal

pub returns-then-len-lt2-clause-ok : goal.returns-then-len-lt2-clause-ok
returns-then-len-lt2-clause-ok c before paid = paid

pub returns-then-is_place_queued-clause-ok : goal.returns-then-is_place_queued-clause-ok
returns-then-is_place_queued-clause-ok c before paid = paid

pub returns-clause-ok : goal.returns-clause-ok
returns-clause-ok c before paid =
    let v = c.args.v.now in
    let cells = (view_of_table c.args.table.now).cells in
    call_noted _ _ _ v.key v.addr v.state.now before c.args.table.now _ c.args.targets.now.items (sym (c.is_place_queued.ensures _ c.requires.visited.stands) ∙ c.if-is_place_queued.false)
    (λ settled. subst (AreLastCallsCovered _ cells) (sym (c.in_ok-insert.ensures.items ∙ ap (λ (l : List LastCall). c.of.result ∷ l) c.truncate.ensures.items))
    (calls_after _ cells c.of.result 15 (c.args.table.now.covered).calls.items (call_new _ cells c.of.result v.key c.args.targets.now.items c.in_ok-entry.entry c.of.ensures c.in_ok-entry.ensures.0 (c.in_ok-entry.ensures.1 settled)) c.requires.visited.fine.covered.1))
    paid
