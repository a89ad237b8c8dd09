use Rattle.small_states.proofs.SparseLemmas.{more_anys}
use Rattle.small_states.proofs.values.Values.push_unknowns.Goals as goal

pub returns : goal.returns
returns c = more_anys c.args.self.now.known.items c.args.self.now.rest c.args.count
