use Rattle.std.proofs.Common.{◌≡◌, take}
use Rattle.tcd_report.specs.Graphs.{return_addresses_after}
use Rattle.tcd_report.proofs.graphs.successors.set_return_addresses.Given as goal

abbrev pub invariant-loop-key : goal.invariant-loop-key
invariant-loop-key l = l.all.items ≡ return_addresses_after l.cert l.back (take l.key-index l.keys)
