-- Marks along the edges of a graph.
use Rattle.std.proofs.Common.{◌≡◌, ◌⊎◌, inl, inr, ℕ, zero, suc, ◌+◌, ◌<◌, ◌≤◌, nat_eq, Bool, true, false, List, [], ◌∷◌, ◌++◌, length, get_or, set, take, refl, sym, ap, ◌∙◌, subst, arith, Contains, get_or-set_same, get_or-set_other, eqb, below_more, Option, Some, None, length-append, length-set}
use Rattle.std.specs.Prelude.{if◌then◌else◌, replicate, slice_index, IsTrue}
use Rattle.std.proofs.lemmas.Bool.{cases_eq, eqb-true, and_parts}
use Rattle.std.proofs.lemmas.List.{take_more}
use Rattle.std.proofs.Math.Seq.{take-append_seam}
use Rattle.std.proofs.lemmas.List.Elements.{Contains-append_left, Contains-append_right, Contains-push_cases, Contains-push}
use Rattle.std.specs.declared.vec.Vec.{Vec}
use Rattle.std.specs.declared.alloc.Global.{Global}
use Rattle.indexmap.specs.IndexMap.{IndexMap, get}
use Rattle.frame_places.specs.declared.needs.reach.FrameEdge.{FrameEdge}
use Rattle.frame_places.specs.declared.needs.row.NeedRow.{NeedRow}
use Rattle.frame_places.specs.NodeGraph.{edge_between, AreEdgesOfRows, AddsEdges, AreEdgesBelow, IsNodeReachedFrom, here, along, IsRecursiveNode, count_unmarked, IsAmongPredecessors, ArePredecessors, ArePredecessorsBelow, AddsPredecessor, MarksAndQueuesUnmarked, SearchInvariantHolds, AreReachingMarks, IsFirstRecursiveNodeBefore, IsFirstRecursiveNode, IsNodeMarked}
use Rattle.frame_places.specs.Hashed.{edge_eq}

-- ---- one more mark
marked_set : (marks : List Bool) (i k : ℕ) → IsNodeMarked (set marks i true) k → IsNodeMarked marks k ⊎ (k ≡ i)
marked_set marks i k m =
    elim (cases_eq k i) [
      | inl e ↦ inr e
      | inr ne ↦ inl (sym (get_or-set_other marks i k true false ne) ∙ m)
    ]

pub marked_same : (marks : List Bool) (i : ℕ) → i < length marks → IsNodeMarked (set marks i true) i
marked_same marks i lt = get_or-set_same marks i true false lt

marked_keeps : (marks : List Bool) (i k : ℕ) → i < length marks → IsNodeMarked marks k → IsNodeMarked (set marks i true) k
marked_keeps marks i k lt m =
    elim (cases_eq k i) [
      | inl e ↦ subst (IsNodeMarked (set marks i true)) (sym e) (marked_same marks i lt)
      | inr ne ↦ get_or-set_other marks i k true false ne ∙ m
    ]

unmarked_less : (marks : List Bool) (i : ℕ) → i < length marks → get_or marks i false ≡ false → count_unmarked (set marks i true) < count_unmarked marks
unmarked_less [] i lt e = absurd (omega arith)
unmarked_less (true ∷ ms) zero lt e = cc
unmarked_less (false ∷ ms) zero lt e = omega arith
unmarked_less (true ∷ ms) (suc i) lt e = unmarked_less ms i (omega arith) e
unmarked_less (false ∷ ms) (suc i) lt e = omega (arith, unmarked_less ms i (omega arith) e)

one_node : (node k : ℕ) → Contains (node ∷ []) k → node ≡ k
one_node node k c = at c.0 c.1 c.2 where
  at : (i : ℕ) → i < 1 → get_or (node ∷ []) i k ≡ k → node ≡ k
  at zero lt same = same
  at (suc i) lt same = absurd (omega arith)

-- ---- one more node
pub node_new : (node : ℕ) (marks : List Bool) (work : List ℕ) → node < length marks → get_or marks node false ≡ false → MarksAndQueuesUnmarked (node ∷ []) marks (set marks node true) work (work ++ node ∷ [])
node_new node marks work lt free = record {
  keeps = λ k m. marked_keeps marks node k lt m;
  marks = λ k c. subst (IsNodeMarked (set marks node true)) (one_node node k c) (marked_same marks node lt);
  only = λ k m.
      elim (marked_set marks node k m) [
        | inl h ↦ inl h
        | inr e ↦ inr (subst (λ (n : ℕ). Contains (node ∷ []) n) (sym e) (0, omega arith, refl))
      ];
  listed = λ k c. Contains-append_left work (node ∷ []) k c;
  each = λ k m.
      elim (marked_set marks node k m) [
        | inl h ↦ inl h
        | inr e ↦ inr (subst (λ (n : ℕ). Contains (work ++ node ∷ []) n) (sym e) (Contains-push work node))
      ];
  from_new = λ k c.
      elim (Contains-push_cases work node k c) [
        | inl i ↦ inl i
        | inr e ↦ inr (subst (IsNodeMarked (set marks node true)) e (marked_same marks node lt))
      ];
  less = let u = unmarked_less marks node lt free in let l = length-append work (node ∷ []) in omega (arith, u, l);
  same = length-set marks node true;
}

-- ---- several

pub nodes_more : (ns : List ℕ) (n : ℕ) (a b d : List Bool) (w x y : List ℕ) → MarksAndQueuesUnmarked ns a b w x → MarksAndQueuesUnmarked (n ∷ []) b d x y → MarksAndQueuesUnmarked (ns ++ n ∷ []) a d w y
nodes_more ns n a b d w x y h g = record {
  keeps = λ k m. g.keeps k (h.keeps k m);
  marks = λ k c.
      elim (Contains-push_cases ns n k c) [
        | inl i ↦ g.keeps k (h.marks k i)
        | inr e ↦ g.marks k (subst (λ (z : ℕ). Contains (n ∷ []) z) e (0, omega arith, refl))
      ];
  only = λ k m.
      elim (g.only k m) [
        | inl o ↦ (elim (h.only k o) [ inl p ↦ inl p | inr c ↦ inr (Contains-append_left ns (n ∷ []) k c) ])
        | inr c ↦ inr (Contains-append_right ns (n ∷ []) k c)
      ];
  listed = λ k c. g.listed k (h.listed k c);
  each = λ k m.
      elim (g.each k m) [
        | inl o ↦ (elim (h.each k o) [ inl p ↦ inl p | inr c ↦ inr (g.listed k c) ])
        | inr c ↦ inr c
      ];
  from_new = λ k c.
      elim (g.from_new k c) [
        | inl o ↦ (elim (h.from_new k o) [ inl p ↦ inl p | inr m ↦ inr (g.keeps k m) ])
        | inr m ↦ inr m
      ];
  less = let p = h.less in let q = g.less in omega (arith, p, q);
  same = g.same ∙ h.same;
}

-- ---- all from which a node is reached
-- the sources of a queued node are marked
pub marking_more : {S : Type 0} (edges : List FrameEdge) (sources : IndexMap ℕ (Vec ℕ Global) S) (nodes j t : ℕ) (list : Vec ℕ Global) (a b : List Bool) (w x : List ℕ) → ArePredecessors edges sources
    → get nat_eq sources t ≡ Some list → MarksAndQueuesUnmarked list.items a b w x → SearchInvariantHolds edges nodes j a (w ++ t ∷ []) → SearchInvariantHolds edges nodes j b x
marking_more edges sources nodes j t list a b w x are at m old = record {
  all = m.same ∙ old.all;
  sound = λ k h.
      elim (m.only k h) [
        | inl o ↦ old.sound k o
        | inr c ↦ along k t (are.sound k t (subst (λ (o : Option (Vec ℕ Global)). IsAmongPredecessors o k) (sym at) c)) (old.sound t (old.listed t (Contains-push w t)))
      ];
  goal = m.keeps j old.goal;
  listed = λ k c.
      elim (m.from_new k c) [
        | inl o ↦ m.keeps k (old.listed k (Contains-append_left w (t ∷ []) k o))
        | inr h ↦ h
      ];
  done = λ k u e h.
      elim (m.each u h) [
        | inl o ↦ (elim (old.done k u e o) [
          | inl c ↦ (elim (Contains-push_cases w t u c) [
            | inl i ↦ inl (m.listed u i)
            | inr same ↦ inr (m.marks k (subst (λ (o : Option (Vec ℕ Global)). IsAmongPredecessors o k) at (subst (λ (n : ℕ). IsAmongPredecessors (get nat_eq sources n) k) (sym same) (are.complete k u e))))
          ])
          | inr p ↦ inr (m.keeps k p)
        ])
        | inr c ↦ inl c
      ];
}

-- a node without sources is skipped
pub marking_past : {S : Type 0} (edges : List FrameEdge) (sources : IndexMap ℕ (Vec ℕ Global) S) (nodes j t : ℕ) (a : List Bool) (w : List ℕ) → ArePredecessors edges sources
    → get nat_eq sources t ≡ None → SearchInvariantHolds edges nodes j a (w ++ t ∷ []) → SearchInvariantHolds edges nodes j a w
marking_past edges sources nodes j t a w are none old = record {
  all = old.all;
  sound = old.sound;
  goal = old.goal;
  listed = λ k c. old.listed k (Contains-append_left w (t ∷ []) k c);
  done = λ k u e h.
      elim (old.done k u e h) [
        | inl c ↦ (elim (Contains-push_cases w t u c) [
          | inl i ↦ inl i
          | inr same ↦ absurd (subst (λ (o : Option (Vec ℕ Global)). IsAmongPredecessors o k) none (subst (λ (n : ℕ). IsAmongPredecessors (get nat_eq sources n) k) (sym same) (are.complete k u e)))
        ])
        | inr p ↦ inr p
      ];
}

pub sources_below : {S : Type 0} (edges : List FrameEdge) (sources : IndexMap ℕ (Vec ℕ Global) S) (nodes : ℕ) → ArePredecessors edges sources → AreEdgesBelow edges nodes → ArePredecessorsBelow sources nodes
sources_below edges sources nodes are between k t h = between.node (edge_between k t) (are.sound k t h)

closed_marks : (edges : List FrameEdge) (nodes j : ℕ) (marks : List Bool) → SearchInvariantHolds edges nodes j marks [] → (k : ℕ) → IsNodeReachedFrom edges j k → IsNodeMarked marks k
closed_marks edges nodes j marks m _ here = m.goal
closed_marks edges nodes j marks m _ (along k t c r) = elim (m.done k t c (closed_marks edges nodes j marks m t r)) [ inl i ↦ absurd (omega (arith, i.1)) | inr h ↦ h ]

pub marking_done : (edges : List FrameEdge) (nodes j : ℕ) (marks : List Bool) → SearchInvariantHolds edges nodes j marks [] → AreReachingMarks edges nodes j marks
marking_done edges nodes j marks m = record { each = m.all; sound = m.sound; complete = closed_marks edges nodes j marks m }

zeros : (n k : ℕ) → get_or (replicate n false) k false ≡ false
zeros zero k = refl
zeros (suc n) zero = refl
zeros (suc n) (suc k) = zeros n k

only_goal : (nodes j k : ℕ) → IsNodeMarked (set (replicate nodes false) j true) k → k ≡ j
only_goal nodes j k m =
    elim (marked_set (replicate nodes false) j k m) [
      | inl h ↦ absurd (let f : true ≡ false = sym h ∙ zeros nodes k in cc)
      | inr e ↦ e
    ]

pub marking_begins : (edges : List FrameEdge) (nodes j : ℕ) → j < nodes → length (replicate nodes false) ≡ nodes → SearchInvariantHolds edges nodes j (set (replicate nodes false) j true) (j ∷ [])
marking_begins edges nodes j lt len = record {
  all = length-set (replicate nodes false) j true ∙ len;
  sound = λ k m. subst (IsNodeReachedFrom edges j) (sym (only_goal nodes j k m)) here;
  goal = marked_same (replicate nodes false) j (omega arith);
  listed = λ k c. subst (IsNodeMarked (set (replicate nodes false) j true)) (one_node j k c) (marked_same (replicate nodes false) j (omega arith));
  done = λ k t e m. inl (subst (λ (n : ℕ). Contains (j ∷ []) n) (sym (only_goal nodes j t m)) (0, omega arith, refl));
}

-- a node is recursive if it enters one from which it is reached
pub recurring_marks : (edges : List FrameEdge) (nodes node : ℕ) (marks : List Bool) (r : Bool) → AreReachingMarks edges nodes node marks
    → (IsTrue r → (t : ℕ) × Contains edges (edge_between node t) × IsNodeMarked marks t) × (((t : ℕ) × Contains edges (edge_between node t) × IsNodeMarked marks t) → IsTrue r)
    → (IsTrue r → IsRecursiveNode edges node) × (IsRecursiveNode edges node → IsTrue r)
recurring_marks edges nodes node marks r are tells = (
  (λ h. let f = tells.0 h in record { next = f.0; enters = f.1; back = are.sound f.0 f.2 }),
  (λ h. tells.1 (h.next, h.enters, are.complete h.next h.back)),
)

-- ---- the first so far
pub first_done : (orders : List ℕ) (edges : List FrameEdge) (first : Option ℕ) (n : ℕ) → AreEdgesBelow edges (length orders) → length orders ≤ n → IsFirstRecursiveNodeBefore orders edges n first → IsFirstRecursiveNode orders edges first
first_done orders edges None n between le h = λ k r. h k (omega (arith, between.node (edge_between k r.next) r.enters)) r
first_done orders edges (Some k) n between le h = (h.0, h.1, (λ j r. h.2 j (omega (arith, between.node (edge_between j r.next) r.enters)) r))

-- a node that isn't recursive
pub first_not : (orders : List ℕ) (edges : List FrameEdge) (first : Option ℕ) (n : ℕ) → IsFirstRecursiveNodeBefore orders edges n first → (IsRecursiveNode edges n → ⊥) → IsFirstRecursiveNodeBefore orders edges (n + 1) first
first_not orders edges None n h apart = below_more _ n h apart
first_not orders edges (Some k) n h apart = (h.0, h.1, below_more _ n h.2 (λ r. absurd (apart r)))

-- a node that is
pub first_here : (orders : List ℕ) (edges : List FrameEdge) (first : Option ℕ) (n : ℕ) → n < length orders → IsFirstRecursiveNodeBefore orders edges n first → ((k : ℕ) → first ≡ Some k → slice_index orders n < slice_index orders k) → IsRecursiveNode edges n
    → IsFirstRecursiveNodeBefore orders edges (n + 1) (Some n)
first_here orders edges None n lt h less r = (lt, r, below_more _ n (λ j b q. absurd (h j b q)) (λ q. omega arith))
first_here orders edges (Some k) n lt h less r = (lt, r, below_more _ n (λ j b q. let below = less k refl in let f = h.2 j b q in omega (arith, below, f)) (λ q. omega arith))

-- ---- edges

pub edges_more : (rows : List NeedRow) (row : NeedRow) (old new : List FrameEdge) → AreEdgesOfRows rows old → AddsEdges old new row.node row.into.items → AreEdgesOfRows (rows ++ row ∷ []) new
edges_more rows row old new are adds = record {
  sound = λ k t c.
      elim (adds.sound (edge_between k t) c) [
        | inl h ↦ (let r = are.sound k t h in (r.0, Contains-append_left rows (row ∷ []) r.0 r.1, r.2, r.3))
        | inr h ↦ (row, Contains-push rows row, sym h.0, h.1)
      ];
  complete = λ k t h.
      elim (Contains-push_cases rows row h.0 h.1) [
        | inl i ↦ adds.keeps (edge_between k t) (are.complete k t (h.0, i, h.2, h.3))
        | inr e ↦ subst (λ (n : ℕ). Contains new (edge_between n t)) (ap (λ (r : NeedRow). r.node) e ∙ h.2) (adds.complete t (subst (λ (r : NeedRow). Contains r.into.items t) (sym e) h.3))
      ];
}

key_sides : (t : Bool) (es : List FrameEdge) (e x : FrameEdge) → Contains (if t then es else es ++ e ∷ []) x → Contains es x ⊎ (e ≡ x)
key_sides true es e x c = inl c
key_sides false es e x c = Contains-push_cases es e x c

key_kept : (t : Bool) (es : List FrameEdge) (e x : FrameEdge) → Contains es x → Contains (if t then es else es ++ e ∷ []) x
key_kept true es e x c = c
key_kept false es e x c = Contains-append_left es (e ∷ []) x c

-- one more edge, unless it is there
pub adds_more : (t : Bool) (old new after : List FrameEdge) (node i x d : ℕ) (into : List ℕ) → AddsEdges old new node (take i into) → i < length into → x ≡ get_or into i d
    → after ≡ (if t then new else new ++ edge_between node x ∷ []) → Contains after (edge_between node x) → AddsEdges old after node (take (i + 1) into)
adds_more t old new after node i x d into adds lt is after_is has = record {
  keeps = λ e c. subst (λ (l : List FrameEdge). Contains l e) (sym after_is) (key_kept t new (edge_between node x) e (adds.keeps e c));
  sound = λ e c.
      elim (key_sides t new (edge_between node x) e (subst (λ (l : List FrameEdge). Contains l e) after_is c)) [
        | inl h ↦ (elim (adds.sound e h) [
          | inl o ↦ inl o
          | inr m ↦ inr (m.0, subst (λ (l : List ℕ). Contains l e.into) (sym (take_more into i d lt)) (Contains-append_left (take i into) (get_or into i d ∷ []) e.into m.1))
        ])
        | inr h ↦ inr (
          sym (ap (λ (z : FrameEdge). z.node) h),
          (let f : get_or into i d ≡ e.into = sym is ∙ ap (λ (z : FrameEdge). z.into) h in
              subst (λ (l : List ℕ). Contains l e.into) (sym (take_more into i d lt)) (subst (λ (n : ℕ). Contains (take i into ++ n ∷ []) e.into) (sym f) (Contains-push (take i into) e.into))),
        )
      ];
  complete = λ y c.
      elim (Contains-push_cases (take i into) (get_or into i d) y (subst (λ (l : List ℕ). Contains l y) (take_more into i d lt) c)) [
        | inl h ↦ subst (λ (l : List FrameEdge). Contains l (edge_between node y)) (sym after_is) (key_kept t new (edge_between node x) (edge_between node y) (adds.complete y h))
        | inr e ↦ subst (λ (n : ℕ). Contains after (edge_between node n)) (is ∙ e) has
      ];
}

pub take_front : (n : ℕ) (s xs : List Bool) → n ≡ length s → take n (s ++ xs) ≡ s
take_front n s xs e = subst (λ (k : ℕ). take k (s ++ xs) ≡ s) (sym e) (take-append_seam s xs)

-- ---- edges as sets compare them
pub edge_tells : (e f : FrameEdge) → edge_eq e f ≡ true → e ≡ f
edge_tells e f h =
    let p = and_parts (eqb e.node f.node) (eqb e.into f.into) h in
    let node : e.node ≡ f.node = eqb-true e.node f.node p.0 in
    let into : e.into ≡ f.into = eqb-true e.into f.into p.1 in
    λ i. record { node = node i; into = into i }

-- ---- sources
pub sources_more : {S T : Type 0} (edges : List FrameEdge) (edge : FrameEdge) (old : IndexMap ℕ (Vec ℕ Global) S) (new : IndexMap ℕ (Vec ℕ Global) T) → ArePredecessors edges old → AddsPredecessor old new edge.node edge.into → ArePredecessors (edges ++ edge ∷ []) new
sources_more edges edge old new are adds = record {
  sound = λ k t h.
      elim (adds.sound k t h) [
        | inl o ↦ Contains-append_left edges (edge ∷ []) (edge_between k t) (are.sound k t o)
        | inr e ↦ subst (Contains (edges ++ edge ∷ [])) (λ i. edge_between (sym e.0 i) (sym e.1 i)) (Contains-push edges edge)
      ];
  complete = λ k t c.
      elim (Contains-push_cases edges edge (edge_between k t) c) [
        | inl i ↦ adds.keeps k t (are.complete k t i)
        | inr e ↦ subst (λ (z : FrameEdge). IsAmongPredecessors (get nat_eq new z.into) z.node) e adds.there
      ];
}

-- if ranks rise along each edge, no node is reached from one that it enters
pub ranks_rise : (edges : List FrameEdge) (ranks : List ℕ) → ((e : FrameEdge) → Contains edges e → slice_index ranks e.node < slice_index ranks e.into) → (k : ℕ) → IsRecursiveNode edges k → ⊥
ranks_rise edges ranks rise k r = let a = past k r.next r.enters in let b = lead k r.next r.back in omega (arith, a, b) where
  past : (k t : ℕ) → Contains edges (edge_between k t) → slice_index ranks k < slice_index ranks t
  past k t c = rise (edge_between k t) c

  lead : (j k : ℕ) → IsNodeReachedFrom edges j k → slice_index ranks k ≤ slice_index ranks j
  lead j _ here = omega arith
  lead j _ (along k t c r) = let a = past k t c in let b = lead j t r in omega (arith, a, b)
