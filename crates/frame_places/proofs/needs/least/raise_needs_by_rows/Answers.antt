use Rattle.std.proofs.Common.{◌<◌, ◌-◌, ℕ, sym, subst, refl, arith, true, false}
use Rattle.frame_places.proofs.RowLemmas.{passes_front}
use Rattle.frame_places.proofs.needs.least.raise_needs_by_rows.Goals as goal

pub raise_need_by_row-requires-clause-node : goal.raise_need_by_row-requires-clause-node
raise_need_by_row-requires-clause-node c =
    let row = c.index-rows-i.result in
    subst (λ (n : ℕ). row.node < n) (sym c.loop-i.auto.needs) (c.requires.within.node row (c.loop-i.i - 1, omega (arith, c.loop-i-test.true, c.loop-i.auto.i), sym c.index-rows-i.is))

pub raise_need_by_row-requires-clause-into : goal.raise_need_by_row-requires-clause-into
raise_need_by_row-requires-clause-into c = λ t has.
    let row = c.index-rows-i.result in
    subst (λ (n : ℕ). t < n) (sym c.loop-i.auto.needs) (c.requires.within.into row t (c.loop-i.i - 1, omega (arith, c.loop-i-test.true, c.loop-i.auto.i), sym c.index-rows-i.is) has)

pub raise_need_by_row-requires-clause-held : goal.raise_need_by_row-requires-clause-held
raise_need_by_row-requires-clause-held c = c.requires.within.held c.index-rows-i.result (c.loop-i.i - 1, omega (arith, c.loop-i-test.true, c.loop-i.auto.i), sym c.index-rows-i.is)

pub loop-i-preserved-then-raise_need_by_row : goal.loop-i-preserved-then-raise_need_by_row
loop-i-preserved-then-raise_need_by_row c =
    passes_front c.args.cap c.args.needs.now c.loop-i.needs c.raise_need_by_row.new.needs c.args.rows.now c.loop-i.i c.index-rows-i.result c.loop-i.changed true true (omega (arith, c.loop-i-test.true)) c.loop-i.auto.i c.index-rows-i.is
    c.loop-i.invariant c.if-raise_need_by_row.ensures.pass refl

pub loop-i-preserved : goal.loop-i-preserved
loop-i-preserved c =
    passes_front c.args.cap c.args.needs.now c.loop-i.needs c.raise_need_by_row.new.needs c.args.rows.now c.loop-i.i c.index-rows-i.result c.loop-i.changed false c.loop-i.changed (omega (arith, c.loop-i-test.true)) c.loop-i.auto.i c.index-rows-i.is
    c.loop-i.invariant c.if-raise_need_by_row.ensures.pass refl
