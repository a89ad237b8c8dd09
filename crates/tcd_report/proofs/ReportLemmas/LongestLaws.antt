-- The longest call chains of the priorities: one node more, and then those in the report.
use Rattle.std.proofs.Common.{◌≡◌, ◌==◌, ℕ, zero, suc, ◌+◌, ◌<◌, ◌≤◌, ◌⊎◌, Bool, true, false, cond, List, [], ◌∷◌, ◌++◌, map, length, get_or, take, max, Option, Some, None, inl, inr, refl, sym, ap, ◌∙◌, subst, arith, All, Contains}
use Rattle.std.specs.Prelude.{filter, is_some, nat_eq}
use Rattle.std.specs.HashMap.{HashMap, get}
use Rattle.std.specs.List.{list_any, range_with_len}
use Rattle.std.proofs.lemmas.Bool.{cases_Bool, cases_lt, eqb-true, eqb-false, eq-eqb, ne_eqb, or_left, or_right, or_from}
use Rattle.std.proofs.lemmas.List.{map-append, take_all, take_more}
use Rattle.std.proofs.lemmas.List.Elements.{All-nil, All-cons, All-append, Contains-append_left, Contains-push, Contains-push_cases, filter-append}
use Rattle.elf_image.specs.Images.{ImageData}
use Rattle.tcd_plan.specs.PlanData.{PlanData}
use Rattle.depth_cert.specs.declared.keys.Key.{Key}
use Rattle.depth_cert.specs.Nodes.{NodeData}
use Rattle.depth_cert.specs.Certs.{CertData, IsCert}
use Rattle.cfg_recover.proofs.Members.{contains_first}
use Rattle.tcd_report.specs.Reports.Longest.{priorities_below, IsLongestCallChain, IsHeightAtPriority, longest_so_far, longest_calls_of, longest_calls_below, IsLongestIfAny}
use Rattle.tcd_report.specs.Reports.Heights.{IsHeight, AreNodeHeights}
use Rattle.depth_cert.specs.Keys.{key_eq}
use Rattle.tcd_report.specs.declared.reports.longest_by_priority.LongestCalls.{LongestCalls}
use Rattle.tcd_report.proofs.ReportLemmas.NodeLaws.{one_node}
use Rattle.tcd_report.proofs.ImageLemmas.Ranges.{range_more}

-- ---- one node more
greatest_same : (P Q : ℕ → Type 0) (o : Option ℕ) → ((m : ℕ) → P m → Q m) → ((m : ℕ) → Q m → P m) → IsLongestIfAny P o → IsLongestIfAny Q o
greatest_same P Q None there back h = λ m q. h m (back m q)
greatest_same P Q (Some n) there back h = (there n h.0, λ m q. h.1 m (back m q))

-- the greatest number, with one number more
greatest_with : (P Q : ℕ → Type 0) (o : Option ℕ) (h : ℕ) → ((m : ℕ) → P m → Q m) → Q h → ((m : ℕ) → Q m → P m ⊎ (h ≡ m)) → IsLongestIfAny P o → IsLongestIfAny Q (Some (longest_so_far o h))
greatest_with P Q None h there new back g = (new, λ m q. elim (back m q) [ inl p ↦ absurd (g m p) | inr e ↦ omega (arith, e) ])
greatest_with P Q (Some n) h there new back g = (
  elim (cases_lt n h) [
    | inl lt ↦ subst Q (let e : h ≡ max h n = omega (arith, lt) in e) new
    | inr ge ↦ subst Q (let e : n ≡ max h n = omega (arith, ge) in e) (there n g.0)
  ],
  λ m q. elim (back m q) [ inl p ↦ let le = g.1 m p in omega (arith, le) | inr e ↦ omega (arith, e) ],
)

module _ {S : Type 0} (heights : HashMap Key ℕ S) (nodes : List NodeData) (node : NodeData) (h : ℕ) (told : get key_eq heights node.key ≡ Some h) where
  kept : (p m : ℕ) → IsHeightAtPriority heights nodes p m → IsHeightAtPriority heights (nodes ++ node ∷ []) p m
  kept p m a = (a.0, (Contains-append_left nodes (node ∷ []) a.0 (a.1).0, (a.1).1))

  -- another priority keeps its number
  other_prio : (p : ℕ) (o : Option ℕ) → ((node.key).prio ≡ p → ⊥) → IsLongestIfAny (IsHeightAtPriority heights nodes p) o → IsLongestIfAny (IsHeightAtPriority heights (nodes ++ node ∷ []) p) o
  other_prio p o ne g =
      greatest_same (IsHeightAtPriority heights nodes p) (IsHeightAtPriority heights (nodes ++ node ∷ []) p) o (kept p)
      (λ m a.
      elim (Contains-push_cases nodes node a.0 (a.1).0) [
        | inl before ↦ (a.0, (before, (a.1).1))
        | inr last ↦ absurd (ne (ap (λ (n : NodeData). (n.key).prio) last ∙ ((a.1).1).0))
      ]) g

  -- the node's own priority gets the greater of both
  own_prio : (o : Option ℕ) → IsLongestIfAny (IsHeightAtPriority heights nodes (node.key).prio) o → IsLongestIfAny (IsHeightAtPriority heights (nodes ++ node ∷ []) (node.key).prio) (Some (longest_so_far o h))
  own_prio o g =
      greatest_with (IsHeightAtPriority heights nodes (node.key).prio) (IsHeightAtPriority heights (nodes ++ node ∷ []) (node.key).prio) o h (kept (node.key).prio) (node, (Contains-push nodes node, (refl, told)))
      (λ m a.
      elim (Contains-push_cases nodes node a.0 (a.1).0) [
        | inl before ↦ inl (a.0, (before, (a.1).1))
        | inr last ↦ inr (let f : Some h ≡ Some m = sym told ∙ ap (λ (n : NodeData). get key_eq heights n.key) last ∙ ((a.1).1).1 in cc)
      ]) g

pub longest_more : {S T : Type 0} (heights : HashMap Key ℕ S) (rows more : HashMap ℕ ℕ T) (nodes : List NodeData) (i : ℕ) (node : NodeData) (h n : ℕ) → i < length nodes → node ≡ get_or nodes i node → get key_eq heights node.key ≡ Some h
    → n ≡ longest_so_far (get nat_eq rows (node.key).prio) h → ((q : ℕ) → get nat_eq more q ≡ cond (nat_eq (node.key).prio q) (Some n) (get nat_eq rows q))
    → ((p : ℕ) → IsLongestIfAny (IsHeightAtPriority heights (take i nodes) p) (get nat_eq rows p)) → (p : ℕ) → IsLongestIfAny (IsHeightAtPriority heights (take (i + 1) nodes) p) (get nat_eq more p)
longest_more heights rows more nodes i node h n lt at told is news before p =
    subst (λ ns. IsLongestIfAny (IsHeightAtPriority heights ns p) (get nat_eq more p)) (ap (λ y. take i nodes ++ y ∷ []) at ∙ sym (take_more nodes i node lt)) (
    elim (cases_Bool (nat_eq (node.key).prio p)) [
      | inl same ↦
          let e : (node.key).prio ≡ p = eqb-true (node.key).prio p same in
          let own = own_prio heights (take i nodes) node h told (get nat_eq rows (node.key).prio) (before (node.key).prio) in
          let there : Some (longest_so_far (get nat_eq rows (node.key).prio) h) ≡ get nat_eq more p = ap Some (sym is) ∙ sym (news p ∙ ap (λ b. cond b (Some n) (get nat_eq rows p)) same) in
          subst (λ o. IsLongestIfAny (IsHeightAtPriority heights (take i nodes ++ node ∷ []) p) o) there
          (subst (λ q. IsLongestIfAny (IsHeightAtPriority heights (take i nodes ++ node ∷ []) q) (Some (longest_so_far (get nat_eq rows (node.key).prio) h))) e own)
      | inr other ↦
          subst (λ o. IsLongestIfAny (IsHeightAtPriority heights (take i nodes ++ node ∷ []) p) o) (sym (news p ∙ ap (λ b. cond b (Some n) (get nat_eq rows p)) other))
          (other_prio heights (take i nodes) node h told p (get nat_eq rows p) (eqb-false (node.key).prio p other) (before p))
    ]
    )

-- all nodes
pub longest_all : {S T : Type 0} (heights : HashMap Key ℕ S) (rows : HashMap ℕ ℕ T) (nodes : List NodeData) (i : ℕ) → length nodes ≤ i → ((p : ℕ) → IsLongestIfAny (IsHeightAtPriority heights (take i nodes) p) (get nat_eq rows p))
    → (p : ℕ) → IsLongestIfAny (IsHeightAtPriority heights nodes p) (get nat_eq rows p)
longest_all heights rows nodes i ge h p = subst (λ ns. IsLongestIfAny (IsHeightAtPriority heights ns p) (get nat_eq rows p)) (take_all i nodes ge) (h p)

-- ---- the longest chains in the report

row_prio : (p : ℕ) (o : Option ℕ) (b : Bool) → b ≡ is_some o → map (λ (r : LongestCalls). r.prio) (longest_calls_of p o) ≡ cond b (p ∷ []) []
row_prio p None b e = sym (ap (λ c. cond c (p ∷ []) []) e)
row_prio p (Some n) b e = sym (ap (λ c. cond c (p ∷ []) []) e)

rows_prios : (row : ℕ → Option ℕ) (t : ℕ → Bool) → ((p : ℕ) → t p ≡ is_some (row p)) → (n : ℕ) → map (λ (r : LongestCalls). r.prio) (longest_calls_below row n) ≡ filter t (range_with_len 0 n)
unfolding longest_calls_below
rows_prios row t h zero = refl
rows_prios row t h (suc n) =
    map-append (λ (r : LongestCalls). r.prio) (longest_calls_below row n) (longest_calls_of n (row n))
    ∙ ap (λ l. l ++ map (λ (r : LongestCalls). r.prio) (longest_calls_of n (row n))) (rows_prios row t h n)
    ∙ ap (λ l. filter t (range_with_len 0 n) ++ l) (row_prio n (row n) (t n) (h n))
    ∙ sym (ap (filter t) (range_more 0 n n (omega arith)) ∙ filter-append t (range_with_len 0 n) (n ∷ []))

row_all : (P : LongestCalls → Type 0) (p : ℕ) (o : Option ℕ) → ((n : ℕ) → o ≡ Some n → P (record { longest = n; prio = p })) → All P (longest_calls_of p o)
row_all P p None h = All-nil P
row_all P p (Some n) h = All-cons P (record { longest = n; prio = p }) [] (h n refl) (All-nil P)

rows_all : (P : LongestCalls → Type 0) (row : ℕ → Option ℕ) → ((p n : ℕ) → row p ≡ Some n → P (record { longest = n; prio = p })) → (n : ℕ) → All P (longest_calls_below row n)
unfolding longest_calls_below
rows_all P row h zero = All-nil P
rows_all P row h (suc n) = All-append P (longest_calls_below row n) (longest_calls_of n (row n)) (rows_all P row h n) (row_all P n (row n) (h n))

pub rows_none : (row : ℕ → Option ℕ) → longest_calls_below row 0 ≡ []
unfolding longest_calls_below
rows_none row = refl

pub rows_step : (row : ℕ → Option ℕ) (n m : ℕ) → m ≡ n + 1 → longest_calls_below row m ≡ longest_calls_below row n ++ longest_calls_of n (row n)
unfolding longest_calls_below
rows_step row n m e = let f : m ≡ suc n = omega (arith, e) in ap (longest_calls_below row) f

any_there : (p : ℕ) (nodes : List NodeData) (n : NodeData) (k : ℕ) → k < length nodes → get_or nodes k n ≡ n → (n.key).prio ≡ p → list_any (λ (m : NodeData). (m.key).prio == p) nodes ≡ true
any_there p [] n k lt at e = absurd (omega (arith, lt))
any_there p (m ∷ ms) n zero lt at e = or_left _ _ (eq-eqb (m.key).prio p (ap (λ (x : NodeData). (x.key).prio) at ∙ e))
any_there p (m ∷ ms) n (suc k) lt at e = or_right _ _ (any_there p ms n k (omega (arith, lt)) at e)

any_none : (p : ℕ) (nodes : List NodeData) → ((n : NodeData) → Contains nodes n → (n.key).prio ≡ p → ⊥) → list_any (λ (m : NodeData). (m.key).prio == p) nodes ≡ false
any_none p [] h = refl
any_none p (m ∷ ms) h =
    or_from _ _ (ne_eqb (m.key).prio p (h m (contains_first m ms))) (any_none p ms (λ n c. h n (suc c.0, (let lt = c.1 in omega (arith, lt)), c.2)))

module _ {S : Type 0} (image : ImageData) (plan : PlanData) (cert : CertData) (is : IsCert cert) (heights : HashMap Key ℕ S) (tells : AreNodeHeights image plan cert heights)
    (known : (n : NodeData) → Contains cert.nodes n → (h : ℕ) × (get key_eq heights n.key ≡ Some h)) where
  -- a priority is in the report if it has nodes
  row_where : (p : ℕ) (o : Option ℕ) → IsLongestIfAny (IsHeightAtPriority heights cert.nodes p) o → list_any (λ (m : NodeData). (m.key).prio == p) cert.nodes ≡ is_some o
  row_where p None g = any_none p cert.nodes (λ n c e. let h = known n c in g h.0 (n, (c, (e, h.1))))
  row_where p (Some n) g = let a = g.0 in any_there p cert.nodes a.0 ((a.1).0).0 ((a.1).0).1 ((a.1).0).2 ((a.1).1).0

  height_of : (node : NodeData) (h : ℕ) → Contains cert.nodes node → get key_eq heights node.key ≡ Some h → IsHeight image plan cert node h
  height_of node h c e =
      let told = tells node.key h e in
      subst (λ n. IsHeight image plan cert n h) (one_node cert is told.node node told.stands c told.key) told.height

  -- its number is the length of its longest chain
  longest_is : (p n : ℕ) → IsLongestIfAny (IsHeightAtPriority heights cert.nodes p) (Some n) → IsLongestCallChain image plan cert p n
  longest_is p n g =
      let a = g.0 in
      record {
        node = a.0;
        stands = (a.1).0;
        at_prio = ((a.1).1).0;
        reached = (height_of a.0 n (a.1).0 ((a.1).1).1).reached;
        most = λ other m c e row.
            let h = known other c in
            omega (arith, (height_of other h.0 c h.1).most m row, g.1 h.0 (other, (c, (e, h.1))));
      }

  pub prios_are : (row : ℕ → Option ℕ) → ((p : ℕ) → IsLongestIfAny (IsHeightAtPriority heights cert.nodes p) (row p)) → (n : ℕ) → map (λ (r : LongestCalls). r.prio) (longest_calls_below row n) ≡ priorities_below cert.nodes n
  unfolding priorities_below
  prios_are row all n = rows_prios row (λ p. list_any (λ (m : NodeData). (m.key).prio == p) cert.nodes) (λ p. row_where p (row p) (all p)) n

  pub rows_longest : (row : ℕ → Option ℕ) → ((p : ℕ) → IsLongestIfAny (IsHeightAtPriority heights cert.nodes p) (row p)) → (n : ℕ) → All (λ (r : LongestCalls). IsLongestCallChain image plan cert r.prio r.longest) (longest_calls_below row n)
  rows_longest row all n =
      rows_all (λ (r : LongestCalls). IsLongestCallChain image plan cert r.prio r.longest) row (λ p m e. longest_is p m (subst (λ o. IsLongestIfAny (IsHeightAtPriority heights cert.nodes p) o) e (all p))) n
