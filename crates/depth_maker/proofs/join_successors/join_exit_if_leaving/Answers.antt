use Rattle.std.proofs.Common.{◌≡◌, true}
use Rattle.std.specs.Prelude.{◌==◌}
use Rattle.std.proofs.lemmas.Bool.{eq-eqb}
use Rattle.depth_cert.specs.Exits.{exit_of_state}
use Rattle.cfg_recover.specs.Duties.{owed, leave}
use Rattle.depth_maker.proofs.PartLemmas.{owes_one}
use Rattle.depth_maker.proofs.join_successors.join_exit_if_leaving.Goals as goal

pub join_exit-requires-clause-owes : goal.join_exit-requires-clause-owes
join_exit-requires-clause-owes c =
    let v = c.args.v.now in
    owes_one _ _ _ v.key v.addr v.state.now (owed 6 (leave (exit_of_state v.state.now))) (rw c.in-Ret.is at c.requires.owes)

pub returns-in-Ret-clause-ok : goal.returns-in-Ret-clause-ok
returns-in-Ret-clause-ok c = rw c.in-Ret.is (c.join_exit.ensures.ok 6)

pub join_exit-requires-then-v-eq-SYS-clause-owes : goal.join_exit-requires-then-v-eq-SYS-clause-owes
join_exit-requires-then-v-eq-SYS-clause-owes c =
    let v = c.args.v.now in
    let test : ((v.key).kind == 3) ≡ true = eq-eqb (v.key).kind 3 c.if-v-eq-SYS.true in
    owes_one _ _ _ v.key v.addr v.state.now (owed 7 (leave (exit_of_state v.state.now))) (rw (c.in-Rfe.is, test) at c.requires.owes)

pub returns-then-v-eq-SYS-clause-ok : goal.returns-then-v-eq-SYS-clause-ok
returns-then-v-eq-SYS-clause-ok c =
    let v = c.args.v.now in
    let test : ((v.key).kind == 3) ≡ true = eq-eqb (v.key).kind 3 c.if-v-eq-SYS.true in
    rw (c.in-Rfe.is, test) (c.join_exit-then-v-eq-SYS.ensures.ok 7)
