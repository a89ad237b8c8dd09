use Rattle.std.proofs.Common.{◌-◌, ◌≤◌, length, take}
use Rattle.tc_mem.specs.Pages.{memory_of, AreMemoryPages}
use Rattle.tc_mem.specs.Written.{IsMemoryWritten}
use Rattle.tc_mem.proofs.page_list.write_memory_bytes.Given as goal

abbrev pub invariant-loop-done : goal.invariant-loop-done
invariant-loop-done l = record { within : l.done ≤ length l.bytes; written : IsMemoryWritten (memory_of l.initial.pages) l.addr (take l.done l.bytes) (memory_of l.pages); pages : AreMemoryPages l.pages }

abbrev pub decreases-loop-done : goal.decreases-loop-done
decreases-loop-done l = length l.bytes - l.done
