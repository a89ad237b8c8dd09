use Rattle.std.proofs.Common.{subst, ℕ, ◌*◌, ◌+◌, ◌-◌, ◌<◌, length}
use Rattle.std.specs.Prelude.{sum}
use Rattle.frame_places.proofs.RowLemmas.{sum-le, falls}
use Rattle.frame_places.proofs.needs.least.raise_needs_until_met.Goals as goal

pub loop-smaller : goal.loop-smaller
loop-smaller c =
    let p = c.raise_needs_by_rows.ensures.pass in
    let more = p.grows c.loop-test.true in
    let most = sum-le c.raise_needs_by_rows.new.needs (c.args.cap + 1) p.capped in
    subst (λ (n : ℕ). length c.raise_needs_by_rows.new.needs * (c.args.cap + 1) - sum c.raise_needs_by_rows.new.needs < n * (c.args.cap + 1) - sum c.loop.needs) c.raise_needs_by_rows.auto.needs (falls (length c.raise_needs_by_rows.new.needs) (c.args.cap + 1) (sum c.loop.needs) (sum c.raise_needs_by_rows.new.needs) more most)

pub loop-preserved : goal.loop-preserved
loop-preserved c = let p = c.raise_needs_by_rows.ensures.pass in (λ other m k lt. p.low other m (c.loop.invariant.0 other m) k lt, p.capped)

pub returns-clause-low : goal.returns-clause-low
returns-clause-low c = let p = c.raise_needs_by_rows.ensures.pass in λ other m k lt. p.low other m (c.loop.invariant.0 other m) k lt
