use Rattle.std.proofs.Common.{sym, subst, ℕ, List, ◌∙◌}
use Rattle.std.specs.Prelude.{OnOk}
use Rattle.cfg_recover.specs.Duties.{jump_duties_to}
use Rattle.depth_maker.specs.VisitDuties.{OwesDuties, JoinsDuties}
use Rattle.depth_maker.proofs.join_successors.join_indirect_jump_targets.Goals as goal

pub join_each_jump_target-requires-clause-owes : goal.join_each_jump_target-requires-clause-owes
join_each_jump_target-requires-clause-owes c = subst (λ (l : List ℕ). OwesDuties c.args.v.now (jump_duties_to c.args.v.now.state.now l)) (sym (c.as_slice.ensures.value ∙ c.targets-targets.ensures)) c.requires.owes

pub returns-clause-ok : goal.returns-clause-ok
returns-clause-ok c =
    subst (λ (l : List ℕ). OnOk c.join_each_jump_target.result (JoinsDuties c.args.v.now c.args.table.now c.join_each_jump_target.new.table (jump_duties_to c.args.v.now.state.now l))) (c.as_slice.ensures.value ∙ c.targets-targets.ensures) c.join_each_jump_target.ensures.ok
