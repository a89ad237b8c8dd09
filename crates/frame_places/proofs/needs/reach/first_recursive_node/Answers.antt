use Rattle.frame_places.proofs.ReachLemmas.{first_done}
use Rattle.frame_places.proofs.needs.reach.first_recursive_node.Goals as goal

pub returns : goal.returns
returns c = first_done c.args.orders.now c.args.edges.now c.loop-node.first c.loop-node.node c.requires c.loop-node-test.false c.loop-node.invariant
