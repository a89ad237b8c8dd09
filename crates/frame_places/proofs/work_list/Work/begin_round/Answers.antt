use Rattle.std.proofs.Common.{ap, subst, sym, map}
use Rattle.std.proofs.lemmas.List.Sorted.{IsPermutation-append_left, IsPermutation-map, IsPermutation-pop_more, IsPermutation-refl, IsPermutation-trans, length_permutation}
use Rattle.std.proofs.lemmas.List.{length-map}
use Rattle.std.proofs.lemmas.Result.{err_from_is_err_and}
use Rattle.std.proofs.Common.{◌≡◌, length, ◌++◌, ◌∷◌, [], refl, heap_items, arith}
use Rattle.std.specs.List.Sorted.{IsPermutation}
use Rattle.frame_places.specs.Work.{BeginsRound, HasSameWork, WorkLists}
use Rattle.frame_places.proofs.WorkLemmas.{empty_list, moved_same}
use Rattle.frame_places.proofs.work_list.Work.begin_round.Goals as goal
use Rattle.frame_places.proofs.work_list.Work.begin_round.Goals.{else-loop-self-test, then-loop-self-test+in_ok-reserve+in_default}

pub loop-self-init : goal.loop-self-init
loop-self-init c = (refl, refl, IsPermutation-refl _)

pub returns-in_err-reserve-clause-err : goal.returns-in_err-reserve-clause-err
returns-in_err-reserve-clause-err c =
    let i = c.loop-self.invariant in
    let o = c.self.inside in
    let w = c.loop-self.self-inside in
    let before = map (λ n. n.0) (heap_items o.waiting) in
    let rest = map (λ n. n.0) (heap_items w.waiting) in
    let old : WorkLists = record { first = o.first.items; next = o.next.items; round = o.round.items; waiting = before } in
    let new : WorkLists = record { first = w.first.items; next = w.next.items; round = c.reserve.new.self.items; waiting = rest } in
    let same = moved_same old new (ap (λ v. v.items) i.0) (ap (λ v. v.items) i.1)
    (subst (λ l. IsPermutation (o.round.items ++ before) (l ++ rest)) (sym c.in_err-reserve.ensures.items) i.2) in
    let p = err_from_is_err_and c.from_residual.result c.from_residual.ensures.1 in
    rw p.1 (subst (λ (l : WorkLists). HasSameWork l new) c.self.view_is same)

pub loop-self-preserved : goal.loop-self-preserved
loop-self-preserved c =
    let i = c.loop-self.invariant in
    let w = c.loop-self.self-inside in
    let rest = map (λ n. n.0) (heap_items c.pop.new.self) in
    let all = c.self.inside.round.items ++ map (λ n. n.0) (heap_items c.self.inside.waiting) in
    let more = IsPermutation-pop_more all w.round.items _ rest _ i.2 (IsPermutation-map (λ n. n.0) _ _ c.in-Some.ensures.permutation) in
    (i.0, i.1, subst (λ l. IsPermutation all (l ++ rest)) (sym c.in_ok-push.ensures.items) (subst (λ l. IsPermutation all ((l ++ c.in-Some.number.0 ∷ []) ++ rest)) (sym c.in_ok-reserve.ensures.items) more))

pub returns-clause-round : goal.returns-clause-round
returns-clause-round c =
    let o = c.self.inside in
    let l = c.loop-self.self-inside in
    let w = c.loop-self-test.self-inside in
    let i = c.loop-self.invariant in
    let before = map (λ n. n.0) (heap_items o.waiting) in
    let rest = map (λ n. n.0) (heap_items w.waiting) in
    let old : WorkLists = record { first = o.first.items; next = o.next.items; round = o.round.items; waiting = before } in
    let new : WorkLists = record { first = w.first.items; next = w.next.items; round = c.reverse.new.self.items; waiting = rest } in
    let left : (w.first ≡ o.first) × (w.next ≡ o.next) × IsPermutation (o.round.items ++ before) (w.round.items ++ rest) × (length w.round.items ≡ 0 → rest ≡ []) = elim c.loop-self-test.branch [
      | else-loop-self-test e ↦ rw e.self-inside-is (i.0, i.1, i.2, λ none. absurd (omega (arith, e.loop-self-test.false, c.len.ensures, l.round.ok.0, none)))
      | then-loop-self-test+in_ok-reserve+in_default e ↦
          let h = e.in_default.ensures in
          rw e.self-inside-is (rw e.in_ok-reserve.ensures.items (rw h.unchanged.0 (i.0, i.1, i.2, λ none. empty_list (map (λ n. n.0) (heap_items l.waiting)) (omega (arith, length-map (heap_items l.waiting) (λ n. n.0), h.none, l.waiting.data.ok.0)))))
    ] in
    let turned = c.reverse.ensures.permutation in
    let begun : BeginsRound old new = record {
      first = ap (λ v. v.items) left.0;
      next = ap (λ v. v.items) left.1;
      both = IsPermutation-trans _ _ _ left.2 (IsPermutation-append_left rest w.round.items c.reverse.new.self.items turned);
      some = λ none. left.3 (omega (arith, length_permutation w.round.items c.reverse.new.self.items turned, ap length none));
    } in
    subst (λ (v : WorkLists). BeginsRound v new) c.self.view_is begun
