-- The first fault of a node, from the faults of its points one after another.
use Rattle.std.proofs.Common.{◌≡◌, ℕ, ◌≤◌, ◌<◌, ◌+◌, ◌*◌, ◌^◌, Bool, true, false, List, length, get_or, take, min, Option, Some, None, arith, inl, inr, refl, subst, sym}
use Rattle.std.specs.Prelude.{IsTrue, ◌↔◌, All, Contains, MatchOption, unwrap_or}
use Rattle.std.specs.Option.{option_map}
use Rattle.std.proofs.lemmas.Option.{same_Some, none-some}
use Rattle.std.proofs.lemmas.Bool.{cases_lt, lt-ltb, le-ltb}
use Rattle.std.proofs.lemmas.List.Elements.{All-contains}
use Rattle.elf_image.specs.Images.{ImageData}
use Rattle.tcd_plan.specs.PlanData.{PlanData}
use Rattle.depth_cert.specs.declared.points.Point.{Point}
use Rattle.depth_cert.specs.Points.{AreAscendingPoints}
use Rattle.depth_cert.specs.Nodes.{NodeData}
use Rattle.depth_cert.specs.Certs.{CertData}
use Rattle.cfg_recover.specs.RulesHoldOrFail.{limits_of_cert, RuleHolds, EntryRuleHolds, RulesHoldAtNode, RuleFails, at_entry, at_point}
use Rattle.depth_check.specs.declared.nodes.Fault.{Fault}
use Rattle.depth_check.specs.LeastBroken.{FindsLeastBroken}
use Rattle.depth_check.specs.NodeFaults.{IsFirstNodeFault, earlier_node_fault}
use Rattle.cfg_recover.proofs.FirstFault.{place_of}

-- ---- rising lists

-- ---- a node
module _ (image : ImageData) (plan : PlanData) (cert : CertData) (node : NodeData) (member : Contains cert.nodes node) (points : List Point) (same : points ≡ node.points) (rising : AreAscendingPoints node.points) where
  abbrev AllHold : Point → Type 0
  AllHold p = (r : ℕ) → RuleHolds image plan cert node p r

  -- a fault that comes no later than those of the point at i, if all points before hold
  made : (i : ℕ) (point : Point) (r p : ℕ) → i < length points → point ≡ get_or points i point → All AllHold (take i points) → RuleFails image plan cert r node.key p
      → ((EntryRuleHolds (limits_of_cert plan cert) node → ⊥) → p * 2 ^ 4 + r ≤ (node.key).entry * 2 ^ 4 + 2)
      → ((q : ℕ) → (RuleHolds image plan cert node point q → ⊥) → p * 2 ^ 4 + r ≤ point.addr * 2 ^ 4 + q) → p ≤ point.addr → r ≤ 14 → p < 2 ^ 32
      → IsFirstNodeFault image plan cert node r p
  made i point r p lt at before fails entry here below small addr = record {
    fails = fails;
    entry = entry;
    points = λ x q c broken.
        let up : AreAscendingPoints points = subst (λ (l : List Point). AreAscendingPoints l) (sym same) rising in
        elim (place_of (λ (z : Point). z.addr) points i x point up lt at (subst (λ (l : List Point). Contains l x) (sym same) c)) [
          | inl earlier ↦ absurd (broken (All-contains AllHold (take i points) x before earlier q))
          | inr later ↦
              elim later [
                | inl e ↦ subst (λ (z : Point). p * 2 ^ 4 + r ≤ z.addr * 2 ^ 4 + q) (sym e) (here q (subst (λ (z : Point). RuleHolds image plan cert node z q → ⊥) e broken))
                | inr above ↦ omega arith
              ]
        ];
    rule = small;
    addr = addr;
  }

  -- the point's own fault
  at_this : (i : ℕ) (point : Point) (r : ℕ) → i < length points → point ≡ get_or points i point → All AllHold (take i points) → FindsLeastBroken (RuleHolds image plan cert node point) (Some r) → point.addr < 2 ^ 32
      → ((EntryRuleHolds (limits_of_cert plan cert) node → ⊥) → point.addr * 2 ^ 4 + r ≤ (node.key).entry * 2 ^ 4 + 2) → IsFirstNodeFault image plan cert node r point.addr
  at_this i point r lt at before f addr entry =
      made i point r point.addr lt at before (at_point node point r member (subst (λ (l : List Point). Contains l point) same (i, lt, sym at)) f.broken) entry
      (λ q broken. elim (cases_lt q r) [ inl less ↦ absurd (broken (f.least q less)) | inr more ↦ omega arith ]) (omega arith) f.known addr

  -- K2 at the entry, which doesn't come after the point
  at_its_entry : (i : ℕ) (point : Point) → i < length points → point ≡ get_or points i point → All AllHold (take i points) → (EntryRuleHolds (limits_of_cert plan cert) node → ⊥) → (node.key).entry < 2 ^ 32
      → (node.key).entry ≤ point.addr → ((q : ℕ) → (RuleHolds image plan cert node point q → ⊥) → (node.key).entry * 2 ^ 4 + 2 ≤ point.addr * 2 ^ 4 + q) → IsFirstNodeFault image plan cert node 2 (node.key).entry
  at_its_entry i point lt at before wrong entry below here =
      made i point 2 (node.key).entry lt at before (at_entry node member wrong) (λ w. omega arith) here below (omega arith) entry

  -- the entry and the point have the same address
  at_both : (i : ℕ) (point : Point) (found : Option ℕ) (r : ℕ) → i < length points → point ≡ get_or points i point → All AllHold (take i points) → FindsLeastBroken (RuleHolds image plan cert node point) found
      → (EntryRuleHolds (limits_of_cert plan cert) node → ⊥) → (node.key).entry < 2 ^ 32 → (node.key).entry ≡ point.addr → r ≡ min (unwrap_or found 2) 2 → IsFirstNodeFault image plan cert node r point.addr
  at_both i point None r lt at before f wrong entry e is =
      let two : 2 ≡ r = omega arith in
      subst (λ n. IsFirstNodeFault image plan cert node n point.addr) two
      (subst (λ n. IsFirstNodeFault image plan cert node 2 n) e (at_its_entry i point lt at before wrong entry (omega arith) (λ q broken. absurd (broken (f q)))))
  at_both i point (Some a) r lt at before f wrong entry e is =
      elim (cases_lt a 2) [
        | inl less ↦ let own : a ≡ r = omega arith in subst (λ n. IsFirstNodeFault image plan cert node n point.addr) own (at_this i point a lt at before f (omega arith) (λ w. omega arith))
        | inr more ↦
            let two : 2 ≡ r = omega arith in
            subst (λ n. IsFirstNodeFault image plan cert node n point.addr) two
            (subst (λ n. IsFirstNodeFault image plan cert node 2 n) e
            (at_its_entry i point lt at before wrong entry (omega arith) (λ q broken. elim (cases_lt q a) [ inl lower ↦ absurd (broken (f.least q lower)) | inr upper ↦ omega arith ])))
      ]

  -- the node's entry is good, or comes after the point
  found_this : (i : ℕ) (point : Point) (found : Option ℕ) (fault : Fault) → i < length points → point ≡ get_or points i point → All AllHold (take i points) → FindsLeastBroken (RuleHolds image plan cert node point) found → point.addr < 2 ^ 32
      → ((EntryRuleHolds (limits_of_cert plan cert) node → ⊥) → point.addr < (node.key).entry) → option_map (λ r. record { rule = r; addr = point.addr }) found ≡ Some fault → IsFirstNodeFault image plan cert node fault.rule fault.addr
  found_this i point None fault lt at before f addr behind is = absurd (let n : None ≡ Some fault = is in cc)
  found_this i point (Some r) fault lt at before f addr behind is =
      let e : record { rule = r; addr = point.addr } ≡ fault = same_Some _ _ is in
      subst (λ (z : Fault). IsFirstNodeFault image plan cert node z.rule z.addr) e (at_this i point r lt at before f addr (λ w. let b = behind w in omega (arith, f.known)))

  pub fault_at : (i : ℕ) (point : Point) (good : Bool) (found : Option ℕ) (fault : Fault) → i < length points → point ≡ get_or points i point → All AllHold (take i points) → FindsLeastBroken (RuleHolds image plan cert node point) found
      → point.addr < 2 ^ 32 → (node.key).entry < 2 ^ 32 → (IsTrue good ↔ EntryRuleHolds (limits_of_cert plan cert) node) → earlier_node_fault good (node.key).entry point.addr found ≡ Some fault → IsFirstNodeFault image plan cert node fault.rule fault.addr
  fault_at i point true found fault lt at before f addr entry d is = found_this i point found fault lt at before f addr (λ wrong. absurd (wrong (d.0 refl))) is
  fault_at i point false found fault lt at before f addr entry d is =
      let wrong : EntryRuleHolds (limits_of_cert plan cert) node → ⊥ = λ h. let t : false ≡ true = d.1 h in cc in
      elim (cases_lt point.addr (node.key).entry) [
        | inl behind ↦ found_this i point found fault lt at before f addr (λ w. behind) (rw (lt-ltb _ _ behind) at is)
        | inr from ↦
            elim (cases_lt (node.key).entry point.addr) [
              | inl ahead ↦
                  let e : record { rule = 2; addr = (node.key).entry } ≡ fault = same_Some _ _ (rw (le-ltb _ _ from, lt-ltb _ _ ahead) at is) in
                  subst (λ (z : Fault). IsFirstNodeFault image plan cert node z.rule z.addr) e (at_its_entry i point lt at before wrong entry (omega arith) (λ q broken. omega arith))
              | inr to ↦
                  let e : record { rule = min (unwrap_or found 2) 2; addr = point.addr } ≡ fault = same_Some _ _ (rw (le-ltb _ _ from, le-ltb _ _ to) at is) in
                  subst (λ (z : Fault). IsFirstNodeFault image plan cert node z.rule z.addr) e (at_both i point found (min (unwrap_or found 2) 2) lt at before f wrong entry (omega arith) refl)
            ]
      ]

  -- no fault is found at a point only if all rules hold there
  abbrev fault_of : Point → ℕ → Fault
  fault_of point r = record { rule = r; addr = point.addr }

  none_mapped : (point : Point) (found : Option ℕ) → option_map (fault_of point) found ≡ None → FindsLeastBroken (RuleHolds image plan cert node point) found → AllHold point
  none_mapped point None is f = f
  none_mapped point (Some r) is f = absurd (none-some _ (sym is))

  pub none_at : (point : Point) (good : Bool) (found : Option ℕ) → earlier_node_fault good (node.key).entry point.addr found ≡ None → FindsLeastBroken (RuleHolds image plan cert node point) found → AllHold point
  none_at point true found is f = none_mapped point found is f
  none_at point false found is f =
      elim (cases_lt point.addr (node.key).entry) [
        | inl behind ↦ none_mapped point found (rw (lt-ltb _ _ behind) at is) f
        | inr from ↦
            elim (cases_lt (node.key).entry point.addr) [
              | inl ahead ↦ absurd (none-some _ (sym (rw (le-ltb _ _ from, lt-ltb _ _ ahead) at is)))
              | inr to ↦ absurd (none-some _ (sym (rw (le-ltb _ _ from, le-ltb _ _ to) at is)))
            ]
      ]

  -- a rule that a point breaks is the node's fault, unless that of the entry comes before
  pub broken_at : (i : ℕ) (point : Point) (good : Bool) (r : ℕ) (o : Option Fault) → i < length points → point ≡ get_or points i point → All AllHold (take i points) → FindsLeastBroken (RuleHolds image plan cert node point) (Some r)
      → point.addr < 2 ^ 32 → (node.key).entry < 2 ^ 32 → (IsTrue good ↔ EntryRuleHolds (limits_of_cert plan cert) node) → earlier_node_fault good (node.key).entry point.addr (Some r) ≡ o → MatchOption o (RulesHoldAtNode image plan cert node) (λ x. IsFirstNodeFault image plan cert node x.rule x.addr)
  broken_at i point good r None lt at before f addr entry d is = absurd (f.broken (none_at point good (Some r) is f r))
  broken_at i point good r (Some fault) lt at before f addr entry d is = fault_at i point good (Some r) fault lt at before f addr entry d is

  -- at the end
  pub entry_alone : All AllHold node.points → (EntryRuleHolds (limits_of_cert plan cert) node → ⊥) → (node.key).entry < 2 ^ 32 → IsFirstNodeFault image plan cert node 2 (node.key).entry
  entry_alone all wrong entry = record {
    fails = at_entry node member wrong;
    entry = λ w. omega arith;
    points = λ x q c broken. absurd (broken (All-contains AllHold node.points x all c q));
    rule = omega arith;
    addr = entry;
  }
