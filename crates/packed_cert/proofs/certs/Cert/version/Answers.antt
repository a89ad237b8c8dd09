use Rattle.std.proofs.Common.{subst}
use Rattle.depth_cert.specs.Certs.{IsCert}
use Rattle.packed_cert.proofs.certs.Cert.version.Goals as goal

pub returns-clause-limits : goal.returns-clause-limits
returns-clause-limits c = subst IsCert c.self.view_is c.self.invariant.limits
