use Rattle.depth_check.proofs.NextLaws.{nothing_keeps, store_keeps}
use Rattle.depth_check.proofs.fast_paths.may_skip_change.Goals as goal

pub returns-in-Nothing : goal.returns-in-Nothing
returns-in-Nothing c = λ t b plan s v. rw c.in-Nothing.is (nothing_keeps b plan s v)

pub returns-in-Store : goal.returns-in-Store
returns-in-Store c = λ t b plan s v. rw c.in-Store.is (store_keeps b plan s v _ _ _ _ _ t)
