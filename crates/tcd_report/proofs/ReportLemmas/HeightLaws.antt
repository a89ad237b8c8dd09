-- Heights of nodes, and maps with them.
use Rattle.std.proofs.Common.{◌≡◌, ℕ, zero, suc, ◌+◌, ◌<◌, ◌≤◌, Bool, true, false, cond, List, [], ◌∷◌, ◌++◌, map, length, get_or, take, Some, inl, inr, refl, sym, ap, ◌∙◌, subst, arith, Contains}
use Rattle.std.specs.Bool.{beq}
use Rattle.std.specs.Ordering.{is_lt, nat_cmp, ordering_then}
use Rattle.std.specs.declared.cmp.Ordering.{Ordering}
use Rattle.std.specs.HashMap.{HashMap, get}
use Rattle.std.specs.List.Sorted.{IsPermutation, IsSortedBy}
use Rattle.std.proofs.lemmas.Bool.{cases_Bool, and_parts, and_from, eqb-true, eq-eqb}
use Rattle.std.proofs.lemmas.List.{take_all, take_more}
use Rattle.std.proofs.lemmas.List.Elements.{All-contains, Contains-push_cases}
use Rattle.std.proofs.lemmas.List.Sorted.{Contains-permutation, IsPermutation-sym}
use Rattle.elf_image.specs.Images.{ImageData}
use Rattle.tcd_plan.specs.PlanData.{PlanData}
use Rattle.depth_cert.specs.declared.keys.Key.{Key}
use Rattle.depth_cert.specs.declared.points.Point.{Point}
use Rattle.depth_cert.specs.Nodes.{NodeData, IsNode, find_node}
use Rattle.depth_cert.specs.Certs.{CertData, IsCert}
use Rattle.cfg_recover.specs.RulesHoldOrFail.{Accepts}
use Rattle.cfg_recover.proofs.Members.{contains_map}
use Rattle.tcd_report.specs.Reports.Calls.{CallsAt, NodeCalls, HasCallChain}
use Rattle.tcd_report.specs.Reports.Heights.{IsGreatestHeightInList, IsHeightThroughCall, AreHeightsBounded, IsHeight, HasNodeHeight, AreNodeHeights, HasHeights, need_with_key}
use Rattle.depth_cert.specs.Keys.{key_eq}
use Rattle.tcd_report.proofs.ReportLemmas.NodeLaws.{map_contains, node_stands, one_node, callee_needs}
use Rattle.tcd_report.proofs.ReportLemmas.RankLaws.{stands_before}

-- ---- the comparison of keys in maps
bool_same : (a b : Bool) → beq a b ≡ true → a ≡ b
bool_same true true e = refl
bool_same false false e = refl
bool_same true false e = absurd (let f : false ≡ true = e in cc)
bool_same false true e = absurd (let f : false ≡ true = e in cc)

bool_self : (a : Bool) → beq a a ≡ true
bool_self true = refl
bool_self false = refl

made : ℕ → ℕ → ℕ → Bool → Key
made kind entry prio is = record { kind = kind; entry = entry; prio = prio; is = is }

pub key_eq_true : (j k : Key) → key_eq j k ≡ true → j ≡ k
unfolding made
key_eq_true j k e =
    let a = and_parts _ _ e in
    let b = and_parts _ _ a.1 in
    let c = and_parts _ _ b.1 in
    ap (λ x. made x j.entry j.prio j.is) (eqb-true j.kind k.kind a.0) ∙ ap (λ x. made k.kind x j.prio j.is) (eqb-true j.entry k.entry b.0)
    ∙ ap (λ x. made k.kind k.entry x j.is) (eqb-true j.prio k.prio c.0) ∙ ap (λ x. made k.kind k.entry k.prio x) (bool_same j.is k.is c.1)

pub key_eq_self : (k : Key) → key_eq k k ≡ true
key_eq_self k = and_from _ _ (eq-eqb k.kind k.kind refl) (and_from _ _ (eq-eqb k.entry k.entry refl) (and_from _ _ (eq-eqb k.prio k.prio refl) (bool_self k.is)))

module _ (image : ImageData) (plan : PlanData) (cert : CertData) (is : IsCert cert) (accepted : Accepts image plan cert) where
  -- the length of a call chain from a node is at most the node's need
  row_low : (n : ℕ) (node : NodeData) → Contains cert.nodes node → HasCallChain image plan cert node n → n ≤ node.need
  row_low zero node stands r = omega arith
  row_low (suc n) node stands r =
      omega (arith, callee_needs image plan cert is accepted node r.0 stands (r.1).0 ((r.1).1).0, row_low n r.0 (r.1).0 ((r.1).1).1)

  pub tells_low : {S : Type 0} (heights : HashMap Key ℕ S) → AreNodeHeights image plan cert heights → AreHeightsBounded heights
  tells_low heights tells k h e =
      let told = tells k h e in
      omega (arith, row_low h told.node told.stands (told.height).reached, (All-contains (IsNode cert.version) cert.nodes told.node is.nodes told.stands).need)

  -- the height of a node, by those of the nodes that it calls
  pub height_is : {S : Type 0} (heights : HashMap Key ℕ S) → AreNodeHeights image plan cert heights → (node : NodeData) (n : ℕ)
      → ((callee : NodeData) → Contains cert.nodes callee → NodeCalls image plan cert node callee.key → (h : ℕ) × (get key_eq heights callee.key ≡ Some h)) → IsGreatestHeightInList (IsHeightThroughCall image plan cert heights node.key) node.points n → IsHeight image plan cert node n
  height_is heights tells node n known most =
      record {
        reached =
            elim most.reached [
              | inl none ↦ subst (λ m. HasCallChain image plan cert node m) (sym none) tt
              | inr has ↦
                  let point : Point = has.0 in
                  let row = (has.1).1 in
                  let k : Key = row.0 in
                  let at : CallsAt image plan cert node.key point k = (row.1).0 in
                  let told = tells k ((row.1).1).0 (((row.1).1).1).0 in
                  let calls : NodeCalls image plan cert node (told.node).key = record { point = point; stands = (has.1).0; at = subst (λ j. CallsAt image plan cert node.key point j) (sym told.key) at } in
                  subst (λ m. HasCallChain image plan cert node m) (sym (((row.1).1).1).1) (told.node, (told.stands, (calls, (told.height).reached)))
            ];
        most = bounded;
      }
    where
      bounded : (m : ℕ) → HasCallChain image plan cert node m → m ≤ n
      bounded zero r = omega arith
      bounded (suc m) r =
          let callee : NodeData = r.0 in
          let calls : NodeCalls image plan cert node callee.key = ((r.1).1).0 in
          let has = known callee (r.1).0 calls in
          let told = tells callee.key has.0 has.1 in
          let same : told.node ≡ callee = one_node cert is told.node callee told.stands (r.1).0 told.key in
          let height : IsHeight image plan cert callee has.0 = subst (λ c. IsHeight image plan cert c has.0) same told.height in
          omega (arith, height.most m ((r.1).1).1, most.most (suc has.0) (calls.point, (calls.stands, (callee.key, (calls.at, (has.0, (has.1, refl)))))))

  -- ---- a map with one node more
  pub tells_more : {S : Type 0} (heights more : HashMap Key ℕ S) (key : Key) (n : ℕ) → AreNodeHeights image plan cert heights → HasNodeHeight image plan cert key n → ((q : Key) → get key_eq more q ≡ cond (key_eq key q) (Some n) (get key_eq heights q)) → AreNodeHeights image plan cert more
  tells_more heights more key n tells told news k h e =
      elim (cases_Bool (key_eq key k)) [
        | inl same ↦
            let f : Some n ≡ Some h = sym (ap (λ b. cond b (Some n) (get key_eq heights k)) same) ∙ sym (news k) ∙ e in
            let number : n ≡ h = cc in
            subst (λ m. HasNodeHeight image plan cert k m) number (subst (λ j. HasNodeHeight image plan cert j n) (key_eq_true key k same) told)
        | inr other ↦ tells k h (sym (ap (λ b. cond b (Some n) (get key_eq heights k)) other) ∙ sym (news k) ∙ e)
      ]

pub has_more : {S : Type 0} (heights more : HashMap Key ℕ S) (rs : List (ℕ × Key)) (i : ℕ) (x : ℕ × Key) (n : ℕ) → i < length rs → x ≡ get_or rs i x → HasHeights heights (take i rs)
    → ((q : Key) → get key_eq more q ≡ cond (key_eq x.1 q) (Some n) (get key_eq heights q)) → HasHeights more (take (i + 1) rs)
has_more heights more rs i x n lt at has news =
    subst (λ ys. HasHeights more ys) (ap (λ y. take i rs ++ y ∷ []) at ∙ sym (take_more rs i x lt)) (λ r c.
    elim (cases_Bool (key_eq x.1 r.1)) [
      | inl same ↦ (n, news r.1 ∙ ap (λ b. cond b (Some n) (get key_eq heights r.1)) same)
      | inr other ↦
          elim (Contains-push_cases (take i rs) x r c) [
            | inl before ↦ let h = has r before in (h.0, news r.1 ∙ ap (λ b. cond b (Some n) (get key_eq heights r.1)) other ∙ h.1)
            | inr last ↦ absurd (let f : true ≡ false = sym (key_eq_self x.1) ∙ ap (λ q. key_eq x.1 q.1) last ∙ other in cc)
          ]
    ])

-- ---- nodes by their ranks
-- the node of a rank
pub record IsRanked (cert : CertData) (r : ℕ × Key) (node : NodeData) : Type 0 where
  pub stands : Contains cert.nodes node
  pub key : node.key ≡ r.1
  pub need : node.need ≡ r.0

-- a rank has the need of the node with its key
pub ranked : (cert : CertData) → IsCert cert → (rs : List (ℕ × Key)) → IsPermutation (map need_with_key cert.nodes) rs → (r : ℕ × Key) → Contains rs r → (node : NodeData) × ((find_node r.1 cert.nodes ≡ Some node) × IsRanked cert r node)
ranked cert is rs moved r c =
    let n = map_contains need_with_key cert.nodes r (Contains-permutation rs (map need_with_key cert.nodes) r (IsPermutation-sym (map need_with_key cert.nodes) rs moved) c) in
    let node : NodeData = n.0 in
    let key : node.key ≡ r.1 = ap (λ q. q.1) (n.1).1 in
    (node, (ap (λ k. find_node k cert.nodes) (sym key) ∙ node_stands cert is node (n.1).0, record { stands = (n.1).0; key = key; need = ap (λ q. q.0) (n.1).1 }))

-- the heights of called nodes are known before that of the caller
pub callees_known : {S : Type 0} (image : ImageData) (plan : PlanData) (cert : CertData) → IsCert cert → Accepts image plan cert → (heights : HashMap Key ℕ S) (cmp : Key → Key → Ordering) (rs : List (ℕ × Key)) → IsPermutation (map need_with_key cert.nodes) rs
    → IsSortedBy (λ x y. is_lt (ordering_then (nat_cmp x.0 y.0) (cmp x.1 y.1))) rs → (i : ℕ) (x : ℕ × Key) (node : NodeData) → i < length rs → x ≡ get_or rs i x → HasHeights heights (take i rs) → IsRanked cert x node → (callee : NodeData)
    → Contains cert.nodes callee → NodeCalls image plan cert node callee.key → (h : ℕ) × (get key_eq heights callee.key ≡ Some h)
callees_known image plan cert is accepted heights cmp rs moved sorted i x node lt at has rank callee there calls =
    let less = callee_needs image plan cert is accepted node callee rank.stands there calls in
    let c : Contains rs (need_with_key callee) = Contains-permutation (map need_with_key cert.nodes) rs (need_with_key callee) moved (contains_map need_with_key cert.nodes callee there) in
    has (need_with_key callee) (stands_before cmp rs sorted i (need_with_key callee) x lt at c (omega (arith, less, rank.need)))

-- all heights are known at the end
pub all_known : {S : Type 0} (cert : CertData) (heights : HashMap Key ℕ S) (rs : List (ℕ × Key)) (i : ℕ) → IsPermutation (map need_with_key cert.nodes) rs → length rs ≤ i → HasHeights heights (take i rs) → (n : NodeData) → Contains cert.nodes n
    → (h : ℕ) × (get key_eq heights n.key ≡ Some h)
all_known cert heights rs i moved ge has n c =
    let whole : HasHeights heights rs = subst (λ ys. HasHeights heights ys) (take_all i rs ge) has in
    whole (need_with_key n) (Contains-permutation (map need_with_key cert.nodes) rs (need_with_key n) moved (contains_map need_with_key cert.nodes n c))
