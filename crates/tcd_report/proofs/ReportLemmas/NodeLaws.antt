-- A node of a certificate is found by its key, and the nodes that it calls have lesser needs.
use Rattle.std.proofs.Common.{◌≡◌, ◌==◌, ℕ, zero, suc, ◌+◌, ◌-◌, ◌<◌, ◌≤◌, Bool, true, false, cond, List, [], ◌∷◌, map, length, get_or, Some, inl, inr, refl, sym, ap, ◌∙◌, subst, arith, Contains}
use Rattle.std.specs.Prelude.{Option, IfSome, if◌then◌else◌}
use Rattle.std.specs.List.{find, flat_map}
use Rattle.std.specs.List.Sorted.{IsStrictlyIncreasing}
use Rattle.std.proofs.lemmas.Bool.{cases_Bool, eqb-true, eq-eqb, ne_eqb}
use Rattle.std.proofs.lemmas.List.{get_or-map, length-map}
use Rattle.std.proofs.lemmas.List.Elements.{All-contains, Contains-append_cases}
use Rattle.elf_image.specs.Images.{ImageData}
use Rattle.tcd_plan.specs.PlanData.{PlanData}
use Rattle.value_domain.specs.declared.states.State.{State}
use Rattle.value_domain.specs.State.{AreInLattice}
use Rattle.depth_cert.specs.declared.keys.Key.{Key}
use Rattle.depth_cert.specs.declared.points.Point.{Point}
use Rattle.depth_cert.specs.Keys.{number_of_key}
use Rattle.depth_cert.specs.Nodes.{NodeData, find_node, key_numbers}
use Rattle.depth_cert.specs.Certs.{CertData, IsCert}
use Rattle.cfg_recover.specs.LocalFaults.{IsFaultless}
use Rattle.cfg_recover.specs.Duties.{Duty, enter, Owed, owed, duties_of, keys_entered_by_duty}
use Rattle.cfg_recover.specs.RulesHoldOrFail.{limits_of_cert, RuleHolds, NeedRuleHolds, EntryNeedRuleHolds, Accepts}
use Rattle.cfg_recover.proofs.Members.{contains_first}
use Rattle.tcd_report.specs.Reports.Calls.{called_keys_of, NodeCalls}
use Rattle.tcd_report.proofs.JudgedPoints.{all_rules}

-- ---- lists
-- the elements of a mapped list
pub map_contains : {X Y : Type 0} (f : X → Y) (xs : List X) (y : Y) → Contains (map f xs) y → (x : X) × (Contains xs x × (f x ≡ y))
map_contains f xs y c = at f xs y c.0 c.1 c.2
  where
    at : {X Y : Type 0} (f : X → Y) (xs : List X) (y : Y) (k : ℕ) → k < length (map f xs) → get_or (map f xs) k y ≡ y → (x : X) × (Contains xs x × (f x ≡ y))
    at f [] y k lt e = absurd (omega (arith, lt))
    at f (x ∷ xs) y zero lt e = (x, (contains_first x xs, e))
    at f (x ∷ xs) y (suc k) lt e = let r = at f xs y k (omega (arith, lt)) e in (r.0, ((suc ((r.1).0).0, (let l = ((r.1).0).1 in omega (arith, l)), ((r.1).0).2), (r.1).1))

flat_contains : {X A : Type 0} (f : X → List A) (xs : List X) (z : A) → Contains (flat_map f xs) z → (x : X) × (Contains xs x × Contains (f x) z)
flat_contains f [] z c = absurd (let lt = c.1 in omega (arith, lt))
flat_contains f (x ∷ xs) z c =
    elim (Contains-append_cases (f x) (flat_map f xs) z c) [
      | inl here ↦ (x, (contains_first x xs, here))
      | inr there ↦ let r = flat_contains f xs z there in (r.0, ((suc ((r.1).0).0, (let l = ((r.1).0).1 in omega (arith, l)), ((r.1).0).2), (r.1).1))
    ]

contains_one : {X : Type 0} (x y : X) → Contains (x ∷ []) y → x ≡ y
contains_one x y c = at c.0 c.1 c.2
  where
    at : (k : ℕ) → k < 1 → get_or (x ∷ []) k y ≡ y → x ≡ y
    at zero lt e = e
    at (suc k) lt e = absurd (omega (arith, lt))

contains_nothing : {X : Type 0} (y : X) → Contains [] y → ⊥
contains_nothing y c = let lt = c.1 in omega (arith, lt)

-- ---- the duty of a call
duty_calls : (r : ℕ) (d : Duty) (k : Key) → r ≡ 5 → Contains (keys_entered_by_duty d) k → (t : State) × (owed r d ≡ owed 5 (enter k t))
duty_calls r (enter j t) k e c = (t, ap (λ x. owed x (enter j t)) e ∙ ap (λ x. owed 5 (enter x t)) (contains_one j k c))
duty_calls r _ k e c = absurd (contains_nothing k c)

called_duty : (ds : List Owed) (k : Key) → Contains (called_keys_of ds) k → (t : State) × Contains ds (owed 5 (enter k t))
called_duty ds k c =
    let r = flat_contains (λ (d : Owed). if d.rule == 5 then keys_entered_by_duty d.duty else []) ds k c in
    let d : Owed = r.0 in
    elim (cases_Bool (d.rule == 5)) [
      | inl five ↦
          let it = duty_calls d.rule d.duty k (eqb-true d.rule 5 five) (subst (λ b. Contains (if b then keys_entered_by_duty d.duty else []) k) five (r.1).1) in
          (it.0, subst (λ o. Contains ds o) it.1 (r.1).0)
      | inr other ↦ absurd (contains_nothing k (subst (λ b. Contains (if b then keys_entered_by_duty d.duty else []) k) other (r.1).1))
    ]

-- ---- nodes by their keys
number : NodeData → ℕ
number n = number_of_key n.key

rises : (ns : List NodeData) → IsStrictlyIncreasing (key_numbers ns) → (i n : ℕ) (d : NodeData) → i + suc n < length ns → number (get_or ns i d) < number (get_or ns (i + suc n) d)
unfolding number
rises ns up i zero d lt =
    let step = up i (omega (arith, length-map ns (λ (n : NodeData). number_of_key n.key), lt)) in
    let on : i + 1 ≡ i + suc 0 = omega arith in
    let low = get_or-map (λ (n : NodeData). number_of_key n.key) ns i d 0 (omega (arith, lt)) in
    let high = get_or-map (λ (n : NodeData). number_of_key n.key) ns (i + 1) d 0 (omega (arith, lt)) in
    omega (arith, step, low, high, ap (λ k. number_of_key (get_or ns k d).key) on)
rises ns up i (suc n) d lt =
    let before = rises ns up i n d (omega (arith, lt)) in
    let step = up (i + suc n) (omega (arith, length-map ns (λ (n : NodeData). number_of_key n.key), lt)) in
    let on : i + suc n + 1 ≡ i + suc (suc n) = omega arith in
    let low = get_or-map (λ (n : NodeData). number_of_key n.key) ns (i + suc n) d 0 (omega (arith, lt)) in
    let high = get_or-map (λ (n : NodeData). number_of_key n.key) ns (i + suc n + 1) d 0 (omega (arith, lt)) in
    omega (arith, before, step, low, high, ap (λ k. number_of_key (get_or ns k d).key) on)

find_at : {A : Type 0} (p : A → Bool) (xs : List A) (k : ℕ) (x : A) → k < length xs → get_or xs k x ≡ x → p x ≡ true → ((i : ℕ) → i < k → p (get_or xs i x) ≡ false) → find p xs ≡ Some x
find_at p [] k x lt at here before = absurd (omega (arith, lt))
find_at p (y ∷ ys) zero x lt at here before = ap (λ b. cond b (Some y) (find p ys)) (ap p at ∙ here) ∙ ap Some at
find_at p (y ∷ ys) (suc k) x lt at here before =
    ap (λ b. cond b (Some y) (find p ys)) (before 0 (omega arith)) ∙ find_at p ys k x (omega (arith, lt)) at here (λ i l. before (suc i) (omega (arith, l)))

-- a node of the certificate is found by its key
pub node_stands : (cert : CertData) → IsCert cert → (node : NodeData) → Contains cert.nodes node → find_node node.key cert.nodes ≡ Some node
unfolding number
node_stands cert is node c =
    find_at (λ (n : NodeData). number_of_key n.key == number_of_key node.key) cert.nodes c.0 node c.1 c.2 (eq-eqb (number_of_key node.key) (number_of_key node.key) refl)
    (λ i lt.
    let on : i + suc (c.0 - suc i) ≡ c.0 = omega (arith, lt) in
    let less = rises cert.nodes is.rising i (c.0 - suc i) node (omega (arith, on, c.1)) in
    let last : number_of_key (get_or cert.nodes (i + suc (c.0 - suc i)) node).key ≡ number_of_key node.key = ap (λ k. number_of_key (get_or cert.nodes k node).key) on ∙ ap (λ (n : NodeData). number_of_key n.key) c.2 in
    ne_eqb (number_of_key (get_or cert.nodes i node).key) (number_of_key node.key) (λ e. omega (arith, less, last, e)))

-- nodes with the same key are the same
pub one_node : (cert : CertData) → IsCert cert → (a b : NodeData) → Contains cert.nodes a → Contains cert.nodes b → a.key ≡ b.key → a ≡ b
one_node cert is a b ca cb e =
    let f : Some a ≡ Some b = sym (node_stands cert is a ca) ∙ ap (λ k. find_node k cert.nodes) e ∙ node_stands cert is b cb in cc

-- a called node has a lesser need
pub callee_needs : (image : ImageData) (plan : PlanData) (cert : CertData) → IsCert cert → Accepts image plan cert → (caller callee : NodeData) → Contains cert.nodes caller → Contains cert.nodes callee → NodeCalls image plan cert caller callee.key → callee.need < caller.need
callee_needs image plan cert is accepted caller callee stands there calls =
    let point : Point = calls.point in
    let all : (r : ℕ) → RuleHolds image plan cert caller point r = all_rules image plan cert accepted caller stands point calls.stands in
    let values : AreInLattice (limits_of_cert plan cert) (point.state).regs = (all 2).values refl in
    let faultless : IsFaultless (limits_of_cert plan cert) image plan caller.key point.addr point.state = λ r. (all r).own values in
    let ds : List Owed = duties_of (limits_of_cert plan cert) image plan caller.key point.addr point.state (calls.at).shape (calls.at).size in
    let needs : NeedRuleHolds image plan cert caller point ds = (all 14).needs (calls.at).shape (calls.at).size refl (record { values = values; faultless = faultless; code = (calls.at).code }) in
    let duty = called_duty ds callee.key (calls.at).called in
    let above : EntryNeedRuleHolds cert caller point.state (enter callee.key duty.0) = All-contains (λ (d : Owed). EntryNeedRuleHolds cert caller point.state d.duty) ds (owed 5 (enter callee.key duty.0)) needs.entered duty.1 in
    let more : length (point.state).locals.items + 1 + callee.need ≤ caller.need =
    subst (λ (o : Option NodeData). IfSome o (λ n. length (point.state).locals.items + 1 + n.need ≤ caller.need)) (node_stands cert is callee there) above in
    omega (arith, more)
