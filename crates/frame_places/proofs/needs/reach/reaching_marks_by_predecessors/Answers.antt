use Rattle.std.proofs.Common.{◌≡◌, ◌∙◌, ℕ, Bool, true, false, List, [], ◌∷◌, ◌++◌, length, take, drop, set, subst, sym, ap, arith}
use Rattle.std.specs.Prelude.{replicate}
use Rattle.std.proofs.lemmas.List.{length-replicate}
use Rattle.frame_places.specs.NodeGraph.{AreReachingMarks, SearchInvariantHolds}
use Rattle.frame_places.proofs.ReachLemmas.{marking_begins, marking_done, take_front}
use Rattle.frame_places.proofs.needs.reach.reaching_marks_by_predecessors.Goals as goal

pub returns : goal.returns
returns c edges are =
    let S = c.mark_reaching_nodes.new.marks in
    let D = c.deref_mut.result.now in
    let W = c.push.new.self.items in
    let n : c.in_ok-marks.marks.len ≡ length S = omega (arith, c.mark_reaching_nodes.auto.marks, c.deref_mut.ensures.len) in
    let items : c.in_ok-marks.marks.items ≡ replicate c.args.nodes false = c.in_ok-marks.ensures.items_if_clones_equal (λ y same. same) in
    let e : take c.in_ok-marks.marks.len (S ++ drop (length S) (set c.in_ok-marks.marks.items c.args.node true)) ≡ S = take_front c.in_ok-marks.marks.len S (drop (length S) (set c.in_ok-marks.marks.items c.args.node true)) n in
    let l : length D ≡ c.args.nodes = omega (arith, c.deref_mut.ensures.len, c.in_ok-marks.ensures.len) in
    let marks : D ≡ set (replicate c.args.nodes false) c.args.node true = c.deref_mut.ensures.value ∙ ap (λ (l : List Bool). set l c.args.node true) items in
    let work : W ≡ c.args.node ∷ [] = c.in_ok-push.ensures.items ∙ ap (λ (l : List ℕ). l ++ c.args.node ∷ []) c.new-work.ensures.items in
    let begun : SearchInvariantHolds edges (length D) c.args.node D W =
    subst (λ (k : ℕ). SearchInvariantHolds edges k c.args.node D W) (sym l)
    (subst (λ (b : List Bool). SearchInvariantHolds edges c.args.nodes c.args.node b W) (sym marks)
    (subst (SearchInvariantHolds edges c.args.nodes c.args.node (set (replicate c.args.nodes false) c.args.node true)) (sym work)
    (marking_begins edges c.args.nodes c.args.node c.requires.node (length-replicate c.args.nodes false))))
    in
    subst (AreReachingMarks edges c.args.nodes c.args.node) (sym e)
    (marking_done edges c.args.nodes c.args.node S (subst (λ (k : ℕ). SearchInvariantHolds edges k c.args.node S []) l (c.in_ok-mark_reaching_nodes.ensures edges c.args.node are begun)))
