-- Points with the state of the point before.
use Rattle.std.proofs.Common.{◌≡◌, ℕ, ◌+◌, ◌<◌, List, [], ◌∷◌, ◌++◌, length, get_or, map, drop, Option, Some, None, arith, inl, inr, refl, sym, ap, ◌∙◌, subst, eq-eqb, ◌==◌}
use Rattle.std.specs.Prelude.{IfSome, IsSomeAnd, IsTrue}
use Rattle.std.specs.List.{find}
use Rattle.std.specs.List.Sorted.{IsStrictlyIncreasing}
use Rattle.std.proofs.lemmas.Bool.{lt-ltb, le-ltb}
use Rattle.std.proofs.lemmas.List.{length-map, get_or-map, get_or_default}
use Rattle.value_domain.specs.declared.states.State.{State}
use Rattle.value_domain.specs.Limits.{Limits}
use Rattle.value_domain.specs.Values.{any_val, IsInLattice}
use Rattle.value_domain.specs.State.{AreInLattice, Covers}
use Rattle.depth_cert.specs.declared.points.Point.{Point}
use Rattle.depth_cert.specs.Points.{AreAscendingPoints, find_point}
use Rattle.depth_cert.specs.Nodes.{NodeData}
use Rattle.depth_cert.specs.Certs.{CertData}
use Rattle.tcd_plan.specs.PlanData.{PlanData}
use Rattle.depth_check.specs.declared.points.CurrentPoint.{CurrentPoint}
use Rattle.depth_check.specs.Interrupts.{InterruptsHold}
use Rattle.depth_cert.proofs.FindLaws.{non_decreasing, found}
use Rattle.cfg_recover.specs.RulesHoldOrFail.{HasCoveringPoint}
use Rattle.packed_cert.specs.Walks.{WalkData, IsNextWithSameState, KeepsOtherValues}
use Rattle.packed_cert.proofs.NodeFinds.{covers_same}
use Rattle.packed_cert.proofs.WalkedPoints.{split_more}
use Rattle.depth_check.specs.DutiesHold.{HasPointWithState}
use Rattle.depth_check.specs.PointChecks.{IsWalkAtState, FastPathFactsHold}
use Rattle.depth_check.proofs.WalkLaws.{stands_behind}

-- ---- an element of a list that rises by a number is found by its number
number_at : {A : Type 0} (f : A → ℕ) (xs : List A) (k : ℕ) (d : A) → k < length xs → get_or (map f xs) k 0 ≡ f (get_or xs k d)
number_at f xs k d h = get_or-map f xs k d 0 h

next_above : {A : Type 0} (f : A → ℕ) (xs : List A) (i : ℕ) (d : A) → IsStrictlyIncreasing (map f xs) → i + 1 < length xs → f (get_or xs i d) < f (get_or xs (i + 1) d)
next_above f xs i d rising lt = omega (arith, rising i (omega (arith, length-map xs f)), number_at f xs i d (omega arith), number_at f xs (i + 1) d lt)

strictly_below : {A : Type 0} (f : A → ℕ) (xs : List A) (i k : ℕ) (d : A) → IsStrictlyIncreasing (map f xs) → i < k → k < length xs → f (get_or xs i d) < f (get_or xs k d)
strictly_below f xs i k d rising lt h = omega (arith, next_above f xs i d rising (omega arith), non_decreasing f xs rising (i + 1) k d (omega arith) h)

find_at : {A : Type 0} (f : A → ℕ) (xs : List A) (i : ℕ) (d : A) → IsStrictlyIncreasing (map f xs) → i < length xs → find (λ y. f y == f (get_or xs i d)) xs ≡ Some (get_or xs i d)
find_at f xs i d rising lt =
    found f xs (f (get_or xs i d)) i d lt (
      (λ k e zero before. lt-ltb _ _ (omega (arith, strictly_below f xs k i e rising before lt, number_at f xs i e lt, number_at f xs i d lt))),
      (λ k e from within. le-ltb _ _ (omega (arith, non_decreasing f xs rising i k e from within, number_at f xs i e lt, number_at f xs i d lt))),
    )
    (eq-eqb _ _ refl)

-- ---- the next point is at its address
next_stands : (node : NodeData) (done left rest : List Point) (p q : Point) → AreAscendingPoints node.points → node.points ≡ done ++ (p ∷ left) → left ≡ q ∷ rest → find_point q.addr node.points ≡ Some q
next_stands node done left rest p q rising split next =
    let more : node.points ≡ (done ++ p ∷ []) ++ (q ∷ rest) = split_more node.points done (p ∷ left) left p split refl ∙ ap (λ (l : List Point). (done ++ p ∷ []) ++ l) next in
    let b = stands_behind node.points (done ++ p ∷ []) rest q more in
    let one = find_at (λ (z : Point). z.addr) node.points (length (done ++ p ∷ [])) q rising b.within in
    subst (λ (z : Point). find_point z.addr node.points ≡ Some z) (sym b.here) one

-- and it covers what its own state covers
stands_covers : (points : List Point) (q : Point) (t : State) → find_point q.addr points ≡ Some q → Covers q.state t → IsSomeAnd (find_point q.addr points) (λ z. Covers z.state t)
stands_covers points q t is covers = subst (λ (o : Option Point). IsSomeAnd o (λ z. Covers z.state t)) (sym is) covers

pub known_covers : (node : NodeData) (known : Option ℕ) (a : ℕ) (s : State) → known ≡ Some a → IfSome known (λ x. HasPointWithState node x s) → HasCoveringPoint node a s
known_covers node known a s e h = stands_covers node.points (record { addr = a; state = s }) s (subst (λ (o : Option ℕ). IfSome o (λ x. HasPointWithState node x s)) e h) (covers_same s)

-- so a walk looks ahead
pub looks_ahead : (node : NodeData) (done before : List Point) (w : WalkData) (p : Point) (s : State) → AreAscendingPoints node.points → w.points ≡ node.points → node.points ≡ done ++ before → before ≡ p ∷ w.left → s ≡ w.current → IsWalkAtState node s w
looks_ahead node done before w p s rising all split step same = record {
  points = all;
  current = sym same;
  ahead = λ a t h.
      let q : Point = record { addr = a; state = h.0 } in
      stands_covers node.points q t (next_stands node done w.left (drop 1 w.left) p q rising (split ∙ ap (λ (l : List Point). done ++ l) step) h.1) h.2;
}

pub repeats_stand : (node : NodeData) (done before : List Point) (w : WalkData) (p : Point) (r : Option ℕ) (s : State) → AreAscendingPoints node.points → node.points ≡ done ++ before → before ≡ p ∷ w.left → s ≡ w.current → IfSome r (IsNextWithSameState w)
    → IfSome r (λ a. HasPointWithState node a s)
repeats_stand node done before w p None s rising split step same h = tt
repeats_stand node done before w p (Some a) s rising split step same h =
    let q : Point = record { addr = a; state = w.current } in
    subst (λ (t : State). HasPointWithState node a t) (sym same) (next_stands node done w.left (drop 1 w.left) p q rising (split ∙ ap (λ (l : List Point). done ++ l) step) h)

-- ---- what is known at a point of a walk
pub walk_facts : (plan : PlanData) (cert : CertData) (node : NodeData) (done before : List Point) (w : WalkData) (p : Point) (here : CurrentPoint)
    → AreAscendingPoints node.points → w.points ≡ node.points → node.points ≡ done ++ before → before ≡ p ∷ w.left → here.state.now ≡ w.current
    → (IsTrue here.again → InterruptsHold plan cert node w.current) → IfSome here.next (IsNextWithSameState w) → here.walk.now ≡ w → FastPathFactsHold plan cert node here
walk_facts plan cert node done before w p here rising all split step same again next walk = record {
  again = λ t. subst (InterruptsHold plan cert node) (sym same) (again t);
  next = repeats_stand node done before w p here.next here.state.now rising split step same next;
  walk = subst (IsWalkAtState node here.state.now) (sym walk) (looks_ahead node done before w p here.state.now rising all split step same);
}

-- ---- values that are known
pub known_values : (b : Limits) (before : State) (w : WalkData) → KeepsOtherValues before w → AreInLattice b before.regs → AreInLattice b w.anew → AreInLattice b (w.current).regs
known_values b before w kept own anew r lt = elim (kept r lt) [
  | inl same ↦ subst (IsInLattice b) (sym same.1) (own r same.0)
  | inr among ↦ subst (IsInLattice b) (get_or_default w.anew among.0 any_val _ among.1 ∙ among.2) (anew among.0 among.1)
]
