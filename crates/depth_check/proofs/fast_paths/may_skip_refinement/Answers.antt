use Rattle.std.proofs.Common.{◌≡◌, Bool, true, false, not, refl}
use Rattle.std.specs.Prelude.{IsTrue}
use Rattle.depth_check.proofs.NarrowLaws.{branch_covers}
use Rattle.depth_check.proofs.fast_paths.may_skip_refinement.Goals as goal

off : (v : Bool) → IsTrue (not v) → v ≡ false
off false t = refl
off true t = absurd (let f : false ≡ true = t in cc)

pub returns-in-Branch : goal.returns-in-Branch
returns-in-Branch c = λ t b plan s side values. rw c.in-Branch.is (branch_covers b plan _ _ _ _ _ s side (off c.in-Branch.lowers t) values)
