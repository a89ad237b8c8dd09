use Rattle.depth_maker.proofs.EffectGrowth.{transfer_covers, address_grows, branch_grows}
use Rattle.depth_maker.proofs.laws.effect_monotonicity_laws.Goals as goal

pub returns-clause-transfers : goal.returns-clause-transfers
returns-clause-transfers g b plan s t shape v w low high c is here = transfer_covers b plan s t low high c shape v w is here

pub returns-clause-addresses : goal.returns-clause-addresses
returns-clause-addresses g b plan s t shape low high c is = address_grows b plan s t low high c shape is

pub returns-clause-sides : goal.returns-clause-sides
returns-clause-sides g b plan s t u test x y by lowers side low high c is e =
    let r = branch_grows b plan s t test x y by lowers side low high c is u e in
    (r.1.0, r.1.1, r.1.3)
