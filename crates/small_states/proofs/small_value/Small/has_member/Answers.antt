use Rattle.small_states.proofs.WordTests.{found}
use Rattle.small_states.proofs.small_value.Small.has_member.Goals as goal

pub returns-in-Set : goal.returns-in-Set
returns-in-Set c =
    rw (← c.self.view_is, c.in-Many.is, ← c.as_ref.ensures, c.in-Set.is)
    (found c.contains.result c.args.x c.in-Set.words (rw c.as_slice.ensures.items at c.contains.ensures.value))
