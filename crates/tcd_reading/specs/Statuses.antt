-- The exit statuses of the program.
use Rattle.std.specs.Prelude.{ℕ}
use Rattle.tcd_reading.specs.declared.status.Status.{Status}
use Rattle.tcd_reading.specs.declared.status.Status.TheVariants.{Done, Refused, BadInput, Fault, NoMemory, BadWords}

-- the number with which the program exits for a status
abbrev pub exit_status_of : Status → ℕ
exit_status_of Done = 0
exit_status_of Refused = 1
exit_status_of BadInput = 2
exit_status_of Fault = 3
exit_status_of NoMemory = 4
exit_status_of BadWords = 5
