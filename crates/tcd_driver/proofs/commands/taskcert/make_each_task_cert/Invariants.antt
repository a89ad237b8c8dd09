use Rattle.std.specs.Prelude.{map, string_bytes}
use Rattle.tcd_driver.proofs.TaskcertReports.{AreFilesSoFar}
use Rattle.tcd_driver.proofs.commands.taskcert.make_each_task_cert.Given as goal

abbrev pub invariant-loop-u : goal.invariant-loop-u
invariant-loop-u l = AreFilesSoFar (map string_bytes l.names) l.image l.plan l.tasks l.u l.writes.items l.sum
