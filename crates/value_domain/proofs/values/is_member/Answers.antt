use Rattle.std.proofs.Common.{refl}
use Rattle.value_domain.proofs.values.is_member.Goals as goal

pub returns-in-Set : goal.returns-in-Set
returns-in-Set c = rw (c.in-Set.is, c.is_one_of.ensures, c.as_slice.ensures.items) refl
