use Rattle.std.proofs.Common.{◌∙◌, sym, arith}
use Rattle.vd_transfer.proofs.ChangeLaws.{value-third, value-second, value-first}
use Rattle.small_states.proofs.IncomingLemmas.{is_place, other_place}
use Rattle.small_states.proofs.incoming_values.changed_state_value.Goals as goal

pub returns-then-eq : goal.returns-then-eq
returns-then-eq c =
    let s = c.args.s.now in
    let d = c.args.c.now in
    let i = c.args.i in
    sym (value-third s d i (omega arith) c.requires.place (is_place d.third.at i (sym c.eq.ensures ∙ c.if-eq.true)))

pub returns-then-eq-2 : goal.returns-then-eq-2
returns-then-eq-2 c =
    let s = c.args.s.now in
    let d = c.args.c.now in
    let i = c.args.i in
    sym
    (value-second s d i (omega arith) c.requires.place (other_place d.third.at i (sym c.eq.ensures ∙ c.if-eq.false))
    (is_place d.second.at i (sym c.eq-2.ensures ∙ c.if-eq-2.true)))

pub returns-then-eq-3 : goal.returns-then-eq-3
returns-then-eq-3 c =
    let s = c.args.s.now in
    let d = c.args.c.now in
    let i = c.args.i in
    sym
    (value-first s d i (omega arith) c.requires.place (other_place d.third.at i (sym c.eq.ensures ∙ c.if-eq.false)) (other_place d.second.at i (sym c.eq-2.ensures ∙ c.if-eq-2.false))
    (is_place d.first.at i (sym c.eq-3.ensures ∙ c.if-eq-3.true)))
