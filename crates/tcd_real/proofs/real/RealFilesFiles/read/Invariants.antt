use Rattle.std.proofs.Common.{◌≡◌, ◌≤◌, length}
use Rattle.tcd_real.proofs.real.RealFilesFiles.read.Given as goal

abbrev pub invariant-loop : goal.invariant-loop
invariant-loop g l = (l.self.failed ≡ l.fn.self.failed) × (length l.bytes.items ≤ l.limit)
