use Rattle.csa_chain.proofs.ChainMoves.{save_moves, restore_moves, store_misses, store_leaves}
use Rattle.csa_chain.proofs.laws.chain_laws.Goals as goal

pub returns : goal.returns
returns c = record { save = save_moves; restore = restore_moves; misses = store_misses; store = store_leaves }
