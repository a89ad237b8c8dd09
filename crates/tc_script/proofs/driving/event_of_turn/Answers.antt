use Rattle.std.proofs.Common.{◌≤◌, sym, subst}
use Rattle.std.specs.Prelude.{IfSome}
use Rattle.tc_script.proofs.Events.{next_load-sized}
use Rattle.tc_script.proofs.driving.event_of_turn.Goals as goal

pub port_input-input-requires-clause-some : goal.port_input-input-requires-clause-some
port_input-input-requires-clause-some g c = subst (λ load. IfSome load (λ l. 1 ≤ l.1)) (sym c.next_load_predecoded.ensures) (next_load-sized c.args.m.now)
