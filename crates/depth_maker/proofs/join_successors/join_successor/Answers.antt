use Rattle.std.proofs.Common.{sym, ◌∙◌}
use Rattle.depth_maker.proofs.PartLemmas.{duties_queued}
use Rattle.depth_maker.proofs.join_successors.join_successor.Goals as goal

pub returns-then-is_place_queued-clause-ok : goal.returns-then-is_place_queued-clause-ok
returns-then-is_place_queued-clause-ok c = duties_queued _ _ _ _ _ _ c.args.table.now _ c.requires.visited (sym (c.is_place_queued.ensures _ c.requires.visited.stands) ∙ c.if-is_place_queued.true)

pub join_first_successor-requires-clause-at : goal.join_first_successor-requires-clause-at
join_first_successor-requires-clause-at c = c.requires.visited.at (sym (c.is_place_queued.ensures _ c.requires.visited.stands) ∙ c.if-is_place_queued.false)
