use Rattle.std.proofs.Common.{refl}
use Rattle.small_states.proofs.incoming.incoming_context.Goals as goal

pub returns-in-Changed : goal.returns-in-Changed
returns-in-Changed c = rw (c.incoming_ccpn-ccpn.ensures, c.in-Changed.is) refl

pub returns-in-Leaving : goal.returns-in-Leaving
returns-in-Leaving c = rw (c.incoming_ccpn-ccpn.ensures, c.in-Leaving.is) refl
