use Rattle.std.proofs.Common.{◌≡◌, ◌∙◌, ℕ, ◌-◌, List, [], ◌++◌, take, length, Option, subst, sym, ap, arith, Contains}
use Rattle.std.specs.declared.vec.Vec.{Vec}
use Rattle.std.specs.declared.alloc.Global.{Global}
use Rattle.frame_places.specs.NodeGraph.{IsAmongPredecessors, SearchInvariantHolds, MarksAndQueuesUnmarked}
use Rattle.frame_places.proofs.ReachLemmas.{marking_more, marking_past}
use Rattle.frame_places.proofs.needs.reach.mark_reaching_nodes.Goals as goal

pub mark_and_queue_nodes-requires : goal.mark_and_queue_nodes-requires
mark_and_queue_nodes-requires c k i =
    let h = c.requires k c.in-Some.node (subst (λ (o : Option (Vec ℕ Global)). IsAmongPredecessors o k) c.in-Some-get.ensures.value (subst (λ (l : List ℕ). Contains l k) c.as_slice.ensures.value i)) in
    omega (arith, h, c.loop-node.auto.marks)

pub loop-node-preserved-in-Continue-1 : goal.loop-node-preserved-in-Continue-1
loop-node-preserved-in-Continue-1 c edges node are begun =
    marking_more edges c.args.sources.now (length c.args.marks.now) node c.in-Some.node c.in-Some-get.list.now c.loop-node.marks c.mark_and_queue_nodes.new.marks c.pop.new.self.items c.mark_and_queue_nodes.new.work.items are (sym c.in-Some-get.ensures.value)
    (subst (λ (l : List ℕ). MarksAndQueuesUnmarked l c.loop-node.marks c.mark_and_queue_nodes.new.marks c.pop.new.self.items c.mark_and_queue_nodes.new.work.items) c.as_slice.ensures.value c.in_ok-mark_and_queue_nodes.ensures)
    (subst (SearchInvariantHolds edges (length c.args.marks.now) node c.loop-node.marks) c.in-Some.ensures.items (c.loop-node.invariant edges node are begun))

pub loop-node-preserved : goal.loop-node-preserved
loop-node-preserved c edges node are begun =
    marking_past edges c.args.sources.now (length c.args.marks.now) node c.in-Some.node c.loop-node.marks c.pop.new.self.items are (sym c.in_default-get.ensures.value)
    (subst (SearchInvariantHolds edges (length c.args.marks.now) node c.loop-node.marks) c.in-Some.ensures.items (c.loop-node.invariant edges node are begun))

pub returns : goal.returns
returns c edges node are begun =
    let rest : c.pop.new.self.items ≡ [] = c.in_default.ensures.rest ∙ ap (λ (n : ℕ). take (n - 1) c.loop-node.work.items) c.in_default.ensures.cases.0 in
    let none : c.loop-node.work.items ≡ [] = c.in_default.ensures.items ∙ ap (λ (l : List ℕ). l ++ []) rest in
    subst (SearchInvariantHolds edges (length c.args.marks.now) node c.loop-node.marks) none (c.loop-node.invariant edges node are begun)
