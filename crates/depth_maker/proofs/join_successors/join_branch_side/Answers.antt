use Rattle.std.proofs.Common.{◌≡◌, ◌∙◌, sym, ap, subst, Bool, Option, Some, None}
use Rattle.std.specs.Prelude.{OnOk}
use Rattle.value_domain.specs.declared.states.State.{State}
use Rattle.vd_transfer.specs.Branches.{state_if_possible}
use Rattle.vd_transfer.specs.Changes.{state_after}
use Rattle.cfg_recover.specs.Duties.{owed, jump, branch_duty}
use Rattle.depth_maker.specs.VisitDuties.{OwesDuties, JoinsDuties, side_state}
use Rattle.depth_maker.proofs.PartLemmas.{owes_one, duties_none}
use Rattle.depth_maker.proofs.join_successors.join_branch_side.Goals as goal

pub returns-then-not-write_branch_change-clause-ok : goal.returns-then-not-write_branch_change-clause-ok
returns-then-not-write_branch_change-clause-ok c =
    let v = c.args.v.now in
    let side = c.args.side in
    let e : None ≡ side_state v side.shape side.taken = sym (ap (λ (t : Bool). state_if_possible t (state_after v.state.now c.write_branch_change.new.c)) c.if-not-write_branch_change.true) ∙ c.write_branch_change.ensures.refine in
    subst (λ (o : Option State). JoinsDuties v c.args.table.now c.args.table.now (branch_duty side.to o)) e (duties_none _ _ _ v.key v.addr v.state.now c.args.table.now c.requires.visited.fine)

pub join_successor-requires-clause-owes : goal.join_successor-requires-clause-owes
join_successor-requires-clause-owes c =
    let v = c.args.v.now in
    let side = c.args.side in
    let e : Some (state_after v.state.now c.write_branch_change.new.c) ≡ side_state v side.shape side.taken =
    sym (ap (λ (t : Bool). state_if_possible t (state_after v.state.now c.write_branch_change.new.c)) c.if-not-write_branch_change.false) ∙ c.write_branch_change.ensures.refine in
    owes_one _ _ _ v.key v.addr v.state.now (owed 4 (jump side.to (state_after v.state.now c.write_branch_change.new.c))) (subst (λ (o : Option State). OwesDuties v (branch_duty side.to o)) (sym e) c.requires.owes)

pub returns-clause-ok : goal.returns-clause-ok
returns-clause-ok c =
    let v = c.args.v.now in
    let side = c.args.side in
    let e : Some (state_after v.state.now c.write_branch_change.new.c) ≡ side_state v side.shape side.taken =
    sym (ap (λ (t : Bool). state_if_possible t (state_after v.state.now c.write_branch_change.new.c)) c.if-not-write_branch_change.false) ∙ c.write_branch_change.ensures.refine in
    subst (λ (o : Option State). OnOk c.join_successor.result (JoinsDuties v c.args.table.now c.join_successor.new.table (branch_duty side.to o))) e c.join_successor.ensures.ok
