use Rattle.frame_places.proofs.WorkLemmas.{last_none, last_some, takes_first, turned_none, turned_some}
use Rattle.frame_places.proofs.work_list.Work.pop_from_queue.Goals as goal

pub returns-in-Some-clause-some : goal.returns-in-Some-clause-some
returns-in-Some-clause-some c = takes_first c.args.self.now c.pop_front.new.self c.in-Some.number c.in-Some.ensures.some

pub returns-then-len-gt1-clause-some : goal.returns-then-len-gt1-clause-some
returns-then-len-gt1-clause-some c =
    let left = c.in_default.ensures.none in
    turned_some c.args.self.now c.pop_front.new.self c.refill_front.new.self c.pop_front-then-len-gt1.new.self c.pop_front-then-len-gt1.result left.1 left.0 c.refill_front.ensures c.pop_front-then-len-gt1.ensures.some

pub returns-then-len-gt1-clause-none : goal.returns-then-len-gt1-clause-none
returns-then-len-gt1-clause-none c =
    let left = c.in_default.ensures.none in
    turned_none c.args.self.now c.pop_front.new.self c.refill_front.new.self c.pop_front-then-len-gt1.new.self c.pop_front-then-len-gt1.result left.1 left.0 c.refill_front.ensures c.pop_front-then-len-gt1.ensures.none

pub returns-clause-some : goal.returns-clause-some
returns-clause-some c =
    let left = c.in_default.ensures.none in
    last_some c.args.self.now c.pop_front.new.self c.pop_back.new.self c.pop_back.result left.1 left.0 c.pop_back.ensures.some

pub returns-clause-none : goal.returns-clause-none
returns-clause-none c =
    let left = c.in_default.ensures.none in
    last_none c.args.self.now c.pop_front.new.self c.pop_back.new.self c.pop_back.result left.1 left.0 c.pop_back.ensures.none
