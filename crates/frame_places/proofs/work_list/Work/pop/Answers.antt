use Rattle.std.proofs.Common.{sym, subst}
use Rattle.std.proofs.lemmas.List.Sorted.{IsPermutation-trans}
use Rattle.std.proofs.lemmas.Result.{err_from_is_err_and}
use Rattle.frame_places.specs.Work.{HasEmptyQueue, HasSameWork, WorkLists}
use Rattle.frame_places.proofs.WorkLemmas.{begun_empty, begun_none, begun_some, takes_round}
use Rattle.frame_places.proofs.work_list.Work.pop.Goals as goal

pub returns-in-Some-pop_from_round-clause-some : goal.returns-in-Some-pop_from_round-clause-some
returns-in-Some-pop_from_round-clause-some c = takes_round c.args.self.now c.pop_from_queue.new.self c.pop_from_round.new.self c.in-Some-pop_from_round.number c.in_default.ensures.none c.in-Some-pop_from_round.ensures.some

pub returns-clause-some : goal.returns-clause-some
returns-clause-some c =
    let left = c.in_default-pop_from_round.ensures.none in
    let has = subst (λ (w : WorkLists). HasEmptyQueue c.args.self.now w) (sym left.1) c.in_default.ensures.none in
    begun_some c.args.self.now c.pop_from_round.new.self c.begin_round.new.self c.pop_from_round-2.new.self c.pop_from_round-2.result has c.in_ok-begin_round.ensures.round c.pop_from_round-2.ensures.some

pub returns-clause-none : goal.returns-clause-none
returns-clause-none c =
    let left = c.in_default-pop_from_round.ensures.none in
    let has = subst (λ (w : WorkLists). HasEmptyQueue c.args.self.now w) (sym left.1) c.in_default.ensures.none in
    begun_none c.args.self.now c.pop_from_round.new.self c.begin_round.new.self c.pop_from_round-2.new.self c.pop_from_round-2.result has c.in_ok-begin_round.ensures.round c.pop_from_round-2.ensures.none

pub returns-clause-empty : goal.returns-clause-empty
returns-clause-empty c =
    let left = c.in_default-pop_from_round.ensures.none in
    let has = subst (λ (w : WorkLists). HasEmptyQueue c.args.self.now w) (sym left.1) c.in_default.ensures.none in
    begun_empty c.args.self.now c.pop_from_round.new.self c.begin_round.new.self c.pop_from_round-2.new.self c.pop_from_round-2.result has c.in_ok-begin_round.ensures.round c.pop_from_round-2.ensures.none

pub returns-in_err-begin_round-clause-err : goal.returns-in_err-begin_round-clause-err
returns-in_err-begin_round-clause-err c =
    let p = err_from_is_err_and c.from_residual.result c.from_residual.ensures.1 in
    let rest = subst (λ (w : WorkLists). HasSameWork w c.begin_round.new.self) c.in_default-pop_from_round.ensures.none.1 c.in_err-begin_round.ensures.err in
    rw p.1 (IsPermutation-trans _ _ _ c.in_default.ensures.none.same rest)
