use Rattle.tcd_reading.proofs.Writes.{HasWritten}
use Rattle.tcd_reading.proofs.outcome.write_report_files.Given as goal

abbrev pub invariant-loop-write : goal.invariant-loop-write
invariant-loop-write g l = HasWritten l.writes l.write-index (g.F.Files.seen l.fn.files) (g.F.Files.seen l.files)
