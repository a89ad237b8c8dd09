use Rattle.cfg_recover.proofs.FaultLaws.{fails_refutes}
use Rattle.depth_check.proofs.laws.first_fault_laws.Goals as goal

pub returns : goal.returns
returns c image plan cert r k p f accepts = fails_refutes image plan cert r k p f.fails accepts
