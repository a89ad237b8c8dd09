-- An accepted certificate, and the duties of its points.
use Rattle.std.specs.Prelude.{◌≡◌, List}
use Rattle.depth_cert.specs.declared.keys.Key.{Key}
use Rattle.depth_cert.specs.declared.points.Point.{Point}
use Rattle.cfg_recover.specs.declared.local_rules.Located.{Located}
use Rattle.cfg_recover.specs.Duties.{Owed, duties_of}
use Rattle.cfg_recover.specs.RulesHoldOrFail.{Accepts, limits_of_cert}
use Rattle.tcd_report.specs.declared.judged.Judged.{Judged}

-- the certificate is accepted for the image and the plan, and the bounds are those of its format
pub record IsAcceptedWithLimits (j : Judged) : Type 0 where
  pub limits : j.bounds.now ≡ limits_of_cert j.plan.now j.cert.now
  pub accepted : Accepts j.image.now j.plan.now j.cert.now

-- all duties of a point of an accepted certificate, from which the graph and the report are made
abbrev pub duties_at : Judged → Key → Point → Located → List Owed
duties_at j key point found = duties_of j.bounds.now j.image.now j.plan.now key point.addr point.state found.shape found.size
