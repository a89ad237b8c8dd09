use Rattle.std.proofs.Common.{◌≡◌, ◌∙◌, ℕ, ◌<◌, true, false, Some, None, subst, sym}
use Rattle.std.specs.Prelude.{slice_index}
use Rattle.frame_places.specs.NodeGraph.{IsFirstRecursiveNodeBefore, IsRecursiveNode}
use Rattle.frame_places.proofs.ReachLemmas.{first_here, first_not}
use Rattle.frame_places.proofs.needs.reach.first_recursive_node_up_to.Goals as goal
use Rattle.frame_places.proofs.needs.reach.first_recursive_node_up_to.Goals.{in-Some+else-orders-other, in_default}

pub returns-then-branch : goal.returns-then-branch
returns-then-branch c =
    let recurs : IsRecursiveNode c.args.edges.now c.args.node = c.in_ok-is_recursive_node.ensures.0 c.if-branch.true in
    elim c.match-first.branch [
      | in-Some+else-orders-other w ↦
          first_here c.args.orders.now c.args.edges.now (Some w.in-Some.other) c.args.node c.requires.node
          (subst (IsFirstRecursiveNodeBefore c.args.orders.now c.args.edges.now c.args.node) w.in-Some.is c.requires.first)
          (λ k e. let f : w.in-Some.other ≡ k = cc in subst (λ (n : ℕ). slice_index c.args.orders.now c.args.node < slice_index c.args.orders.now n) f w.if-orders-other.false)
          recurs
      | in_default w ↦
          first_here c.args.orders.now c.args.edges.now None c.args.node c.requires.node
          (subst (IsFirstRecursiveNodeBefore c.args.orders.now c.args.edges.now c.args.node) w.in_default.is c.requires.first)
          (λ k e. absurd (let f : None ≡ Some k = e in cc)) recurs
    ]

pub returns-else-branch : goal.returns-else-branch
returns-else-branch c =
    let same : c.match-first.first ≡ c.args.first = elim c.match-first.branch [
      | in-Some+else-orders-other w ↦ w.first-is ∙ sym w.in-Some.is
      | in_default w ↦ w.first-is
    ] in
    first_not c.args.orders.now c.args.edges.now c.match-first.first c.args.node
    (subst (IsFirstRecursiveNodeBefore c.args.orders.now c.args.edges.now c.args.node) (sym same) c.requires.first)
    (λ r. let yes : c.in_ok-is_recursive_node.field-0 ≡ true = c.in_ok-is_recursive_node.ensures.1 r in let bad : true ≡ false = sym yes ∙ c.if-branch.false in cc)
