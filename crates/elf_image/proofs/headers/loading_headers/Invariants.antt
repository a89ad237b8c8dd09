use Rattle.elf_image.proofs.Loads.{LoadsSoFar}
use Rattle.elf_image.proofs.headers.loading_headers.Given as goal

abbrev pub invariant-loop-number : goal.invariant-loop-number
invariant-loop-number l = LoadsSoFar l.bytes l.number l.count l.loads.items l.total
