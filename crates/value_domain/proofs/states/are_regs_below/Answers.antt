use Rattle.std.proofs.Common.{◌≡◌, true, false, refl, arith, sym, ◌∙◌}
use Rattle.value_domain.specs.Values.{any_val}
use Rattle.value_domain.proofs.RegLaws.{read_at, below_more}
use Rattle.value_domain.proofs.states.are_regs_below.Goals as goal

pub returns-then-not-leq : goal.returns-then-not-leq
returns-then-not-leq c =
    let e = read_at c.args.low.now c.loop-i.i c.index-low-i.result any_val (omega arith) c.index-low-i.is in
    let f = read_at c.args.high.now c.loop-i.i c.index-high-i.result any_val (omega arith) c.index-high-i.is in (
      (λ t. absurd (let g : false ≡ true = t in cc)),
      (λ below.
          let here = rw (e, f) at (below c.loop-i.i (omega arith)) in
          sym c.if-not-leq.true ∙ c.leq.ensures.1 (rw (← c.index-low-i.is, ← c.index-high-i.is) here)),
    )

pub loop-i-preserved : goal.loop-i-preserved
loop-i-preserved c =
    let e = read_at c.args.low.now c.loop-i.i c.index-low-i.result any_val (omega arith) c.index-low-i.is in
    let f = read_at c.args.high.now c.loop-i.i c.index-high-i.result any_val (omega arith) c.index-high-i.is in
    below_more c.args.low.now c.args.high.now c.loop-i.i c.loop-i.invariant
    (rw (e, f) (rw (← c.index-low-i.is, ← c.index-high-i.is) at (c.leq.ensures.0 c.if-not-leq.false)))

pub returns : goal.returns
returns c = ((λ t r h. c.loop-i.invariant r (omega arith)), (λ below. refl))
