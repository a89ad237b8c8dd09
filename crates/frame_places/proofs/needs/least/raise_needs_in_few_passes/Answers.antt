use Rattle.frame_places.proofs.needs.least.raise_needs_in_few_passes.Goals as goal

pub loop-done-preserved : goal.loop-done-preserved
loop-done-preserved c = let p = c.raise_needs_by_rows.ensures.pass in (λ other m k lt. p.low other m (c.loop-done.invariant.0 other m) k lt, p.capped)

pub returns-then-not-raise_needs_by_rows-clause-low : goal.returns-then-not-raise_needs_by_rows-clause-low
returns-then-not-raise_needs_by_rows-clause-low c = let p = c.raise_needs_by_rows.ensures.pass in λ other m k lt. p.low other m (c.loop-done.invariant.0 other m) k lt

pub returns-clause-low : goal.returns-clause-low
returns-clause-low c = c.loop-done.invariant.0
