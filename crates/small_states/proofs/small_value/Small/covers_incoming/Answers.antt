use Rattle.small_states.proofs.small_value.Small.covers_incoming.Goals as goal

pub returns-in-Whole : goal.returns-in-Whole
returns-in-Whole c = rw c.in-Whole.is c.covers.ensures

pub returns-in-Compact : goal.returns-in-Compact
returns-in-Compact c = rw c.in-Compact.is c.covers_small.ensures
