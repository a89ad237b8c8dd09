use Rattle.std.proofs.Common.{◌≡◌, ◌∙◌, ℕ, List, true, false, Contains, take, get_or, subst, sym, inl, inr}
use Rattle.std.proofs.lemmas.List.{take_all, take_more}
use Rattle.std.proofs.lemmas.List.Elements.{Contains-get_or, Contains-push_cases}
use Rattle.frame_places.specs.NodeGraph.{IsNodeMarked}
use Rattle.frame_places.proofs.needs.reach.has_marked_node.Goals as goal

pub returns-then-is_marked_node : goal.returns-then-is_marked_node
returns-then-is_marked_node c = (
  (λ y. (get_or c.args.nodes.now c.loop-node.node-index 0, Contains-get_or c.args.nodes.now c.loop-node.node-index 0 c.loop-node-test.true, sym c.is_marked_node.ensures ∙ c.if-is_marked_node.true)),
  (λ h. cc),
)

pub loop-node-preserved : goal.loop-node-preserved
loop-node-preserved c t i m =
    elim (Contains-push_cases (take c.loop-node.node-index c.args.nodes.now) (get_or c.args.nodes.now c.loop-node.node-index 0) t
    (subst (λ (l : List ℕ). Contains l t) (take_more c.args.nodes.now c.loop-node.node-index 0 c.loop-node-test.true) i)) [
      | inl old ↦ c.loop-node.invariant t old m
      | inr e ↦
          (let no : true ≡ false = sym (subst (IsNodeMarked c.args.marks.now) (sym e) m) ∙ sym c.is_marked_node.ensures ∙ c.if-is_marked_node.false in cc)
    ]

pub returns : goal.returns
returns c = (
  (λ y. cc),
  (λ h. absurd (c.loop-node.invariant h.0 (subst (λ (l : List ℕ). Contains l h.0) (sym (take_all c.loop-node.node-index c.args.nodes.now c.loop-node-test.false)) h.1) h.2)),
)
