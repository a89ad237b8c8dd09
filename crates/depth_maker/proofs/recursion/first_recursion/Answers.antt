use Rattle.std.proofs.Common.{◌≡◌, ◌∙◌, ℕ, List, length, get_or, false, Some, None, subst, sym, ap}
use Rattle.std.specs.Prelude.{map}
use Rattle.std.proofs.lemmas.List.{length-map}
use Rattle.depth_cert.specs.declared.keys.Key.{Key}
use Rattle.depth_cert.specs.Keys.{number_of_key}
use Rattle.frame_places.specs.NodeGraph.{AreEdgesBelow, AreReachingMarks, IsFirstRecursiveNode}
use Rattle.depth_maker.specs.Recursing.{IsFirstRecursiveAddress, frame_key_numbers}
use Rattle.depth_maker.specs.declared.rows.Source.{Source}
use Rattle.frame_places.specs.declared.needs.reach.FrameEdge.{FrameEdge}
use Rattle.frame_places.specs.declared.places.Spot.{Spot}
use Rattle.depth_maker.proofs.RecursSteps.{edges_within, none_recurs, key_there, one_stands, first_recurs}
use Rattle.depth_maker.proofs.recursion.first_recursion.Goals as goal

-- the orders of the frames are those of the table
first_by : (s : Source) (edges : List FrameEdge) (frames : List Key) (orders : List ℕ) (node : ℕ) → orders ≡ map number_of_key frames → frames ≡ (s.table.now).frames.items → IsFirstRecursiveNode orders edges (Some node)
    → IsFirstRecursiveNode (frame_key_numbers s) edges (Some node)
first_by s edges frames orders node is same first = subst (λ (l : List ℕ). IsFirstRecursiveNode l edges (Some node)) (is ∙ ap (λ (l : List Key). map number_of_key l) same) first

pub first_recursive_node-requires : goal.first_recursive_node-requires
first_recursive_node-requires c =
    subst (AreEdgesBelow c.args.edges.now)
    (sym (ap (λ (l : List ℕ). length l) (c.as_slice.ensures.value ∙ c.in_ok-orders.ensures) ∙ length-map c.args.frames.now number_of_key ∙ ap (λ (l : List Key). length l) c.requires.frames))
    (edges_within c.args.source.now c.requires.source c.args.edges.now c.requires.edges)

pub returns-in_default : goal.returns-in_default
returns-in_default c = none_recurs c.args.source.now c.requires.source c.args.edges.now c.requires.edges (rw c.in_default.is at c.in_ok-node.ensures)

pub reaching_marks-requires-clause-edges : goal.reaching_marks-requires-clause-edges
reaching_marks-requires-clause-edges c =
    subst (λ (l : List Key). AreEdgesBelow c.args.edges.now (length l)) (sym c.requires.frames) (edges_within c.args.source.now c.requires.source c.args.edges.now c.requires.edges)

pub returns : goal.returns
returns c =
    let d : Key = record { kind = 0; entry = 0; prio = 0; is = false } in
    let node = c.in-Some.node in
    let key : Key = get_or c.args.frames.now node d in
    let first = first_by c.args.source.now c.args.edges.now c.args.frames.now _ node (c.as_slice.ensures.value ∙ c.in_ok-orders.ensures) c.requires.frames (rw c.in-Some.is at c.in_ok-node.ensures) in
    first_recurs c.args.source.now c.requires.source c.args.edges.now c.requires.edges (length c.args.frames.now) node key first c.as_slice-2.result.now
    (subst (AreReachingMarks c.args.edges.now (length c.args.frames.now) node) (sym c.as_slice-2.ensures.value) c.in_ok-marks.ensures)
    (key_there c.args.source.now c.requires.source c.args.edges.now c.requires.edges node first c.args.frames.now d c.requires.frames)
    c.in-Some-2.addr
    (subst (λ (l : List Spot). IsFirstRecursiveAddress c.args.source.now c.as_slice-2.result.now key l (Some c.in-Some-2.addr)) c.as_slice-points.ensures.value
    (subst (IsFirstRecursiveAddress c.args.source.now c.as_slice-2.result.now key c.as_slice-points.result.now) c.in-Some-2.is c.in_ok-addr.ensures))

pub unreachable-requires : goal.unreachable-requires
unreachable-requires c =
    let d : Key = record { kind = 0; entry = 0; prio = 0; is = false } in
    let node = c.in-Some.node in
    let key : Key = get_or c.args.frames.now node d in
    let first = first_by c.args.source.now c.args.edges.now c.args.frames.now _ node (c.as_slice.ensures.value ∙ c.in_ok-orders.ensures) c.requires.frames (rw c.in-Some.is at c.in_ok-node.ensures) in
    one_stands c.args.source.now c.requires.source c.args.edges.now c.requires.edges (length c.args.frames.now) node key first c.as_slice-2.result.now
    (subst (AreReachingMarks c.args.edges.now (length c.args.frames.now) node) (sym c.as_slice-2.ensures.value) c.in_ok-marks.ensures)
    (key_there c.args.source.now c.requires.source c.args.edges.now c.requires.edges node first c.args.frames.now d c.requires.frames)
    (subst (λ (l : List Spot). IsFirstRecursiveAddress c.args.source.now c.as_slice-2.result.now key l None) c.as_slice-points.ensures.value
    (subst (IsFirstRecursiveAddress c.args.source.now c.as_slice-2.result.now key c.as_slice-points.result.now) c.in-None.is c.in_ok-addr.ensures))
