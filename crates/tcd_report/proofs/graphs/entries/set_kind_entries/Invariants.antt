use Rattle.std.proofs.Common.{◌≡◌, take}
use Rattle.tcd_report.specs.Graphs.{entries_of_kind}
use Rattle.tcd_report.proofs.graphs.entries.set_kind_entries.Given as goal

abbrev pub invariant-loop-key : goal.invariant-loop-key
invariant-loop-key l = l.all.items ≡ entries_of_kind l.kind (take l.key-index l.keys)
