use Rattle.depth_maker.proofs.VisitLemmas.{get_none}
use Rattle.depth_maker.proofs.fixpoint.empty_exit_readers.Goals as goal

pub returns : goal.returns
returns c z = get_none c.new.result z c.new.ensures.empty
