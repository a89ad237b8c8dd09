use Rattle.frame_places.specs.Work.{all_work}
use Rattle.depth_maker.specs.TableLevels.{level_of_table}
use Rattle.depth_maker.proofs.Lawful.{lawful}
use Rattle.depth_maker.proofs.LevelSteps.{level_falls, level_most, none_queued}
use Rattle.depth_maker.proofs.JoinLemmas.{cells_well_formed}
use Rattle.depth_maker.proofs.VisitLemmas.{closed_table}
use Rattle.depth_maker.proofs.fixpoint.least_fixpoint.Goals as goal

pub loop-scratch-smaller : goal.loop-scratch-smaller
loop-scratch-smaller c =
    let h = c.in_ok-visit_listed_places.ensures in
    let sound = c.args.ground.now.sound in
    level_falls (level_of_table c.loop-scratch.table) (level_of_table c.visit_listed_places.new.table) (h.2 c.if-branch.true)
    (level_most _ c.visit_listed_places.new.table sound.limits (cells_well_formed _ _ _ (lawful _ _ _ sound) c.visit_listed_places.new.table h.0) h.0.counted)

pub returns-clause-ok : goal.returns-clause-ok
returns-clause-ok c =
    let h = c.in_ok-visit_listed_places.ensures in
    let t = c.visit_listed_places.new.table in
    let all = closed_table _ _ _ (lawful _ _ _ c.args.ground.now.sound) t h.0 h.1 (none_queued t.places (all_work t.work) h.0.listed (h.3 c.if-branch.false)) in
    record { derived = all.0; closed = all.1; faultless = all.2; plain = h.0.plain; counted = h.0.counted }
