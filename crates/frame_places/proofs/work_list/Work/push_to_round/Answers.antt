use Rattle.std.proofs.Common.{◌∷◌, ℕ, List, sym, ap, subst}
use Rattle.std.specs.List.{insert}
use Rattle.std.specs.List.Sorted.{IsPermutation}
use Rattle.std.proofs.lemmas.List.Sorted.{IsPermutation-insert}
use Rattle.frame_places.specs.Work.{WorkLists}
use Rattle.frame_places.proofs.work_list.Work.push_to_round.Goals as goal

pub returns : goal.returns
returns c =
    let v = c.self.view_is in record {
      first = ap (λ (w : WorkLists). w.first) v;
      next = ap (λ (w : WorkLists). w.next) v;
      round = subst (λ (l : List ℕ). IsPermutation (c.args.number ∷ c.args.self.now.round) l) (sym c.in_ok-insert.ensures.items)
          (subst (λ (l : List ℕ). IsPermutation (c.args.number ∷ l) (insert c.self.inside.round.items c.min-at.result c.args.number)) (ap (λ (w : WorkLists). w.round) v)
          (IsPermutation-insert c.self.inside.round.items c.min-at.result c.args.number));
      waiting = ap (λ (w : WorkLists). w.waiting) v;
    }
