use Rattle.std.proofs.Common.{◌∷◌, List, ℕ, ap, subst, map, heap_items}
use Rattle.std.specs.List.Sorted.{IsPermutation}
use Rattle.std.proofs.lemmas.List.Sorted.{IsPermutation-map}
use Rattle.frame_places.specs.Work.{WorkLists}
use Rattle.frame_places.proofs.work_list.Work.push_to_waiting.Goals as goal

pub returns : goal.returns
returns c =
    let v = c.self.view_is in record {
      first = ap (λ (w : WorkLists). w.first) v;
      next = ap (λ (w : WorkLists). w.next) v;
      round = ap (λ (w : WorkLists). w.round) v;
      waiting = subst (λ (l : List ℕ). IsPermutation (c.args.number ∷ l) (map (λ n. n.0) (heap_items c.push.new.self))) (ap (λ (w : WorkLists). w.waiting) v)
          (IsPermutation-map (λ n. n.0) _ _ c.in_ok-push.ensures.permutation);
    }
