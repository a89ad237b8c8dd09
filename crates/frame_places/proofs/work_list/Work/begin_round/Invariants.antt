use Rattle.std.proofs.Common.{◌≡◌, ◌++◌, map, heap_items, heap_len}
use Rattle.std.specs.List.Sorted.{IsPermutation}
use Rattle.frame_places.proofs.work_list.Work.begin_round.Given as goal

abbrev pub invariant-loop-self : goal.invariant-loop-self
invariant-loop-self l =
    let w = l.self-inside in
    let o = l.initial.self-inside in
    (w.first ≡ o.first) × (w.next ≡ o.next) × IsPermutation (o.round.items ++ map (λ n. n.0) (heap_items o.waiting)) (w.round.items ++ map (λ n. n.0) (heap_items w.waiting))

abbrev pub decreases-loop-self : goal.decreases-loop-self
decreases-loop-self l = heap_len l.self-inside.waiting
