use Rattle.std.proofs.Common.{refl}
use Rattle.depth_check.proofs.Judged.{judged_is_safe}
use Rattle.depth_check.proofs.certificates.check.Goals as goal

pub returns-clause-safe : goal.returns-clause-safe
returns-clause-safe c = judged_is_safe c.args.image.now c.args.plan.now _ c.args.cert.now c.args.cert.now c.check_nodes.result c.plan.view_is c.plan.invariant refl c.version-version.ensures.limits c.check_nodes.ensures
