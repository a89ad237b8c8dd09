-- A certificate is within the limits, as an assignment.
use Rattle.std.proofs.Common.{◌≡◌, ℕ, zero, suc, ◌+◌, ◌^◌, ◌<◌, ◌≤◌, inl, inr, Bool, true, false, List, [], ◌∷◌, length, length-append, map, get_or, refl, sym, ap, ◌∙◌, subst, arith, Option, Some, None, IsSome, Contains}
use Rattle.std.specs.List.{flat_map, list_any, IsDistinct}
use Rattle.std.specs.Cmp.{IsEquivalence}
use Rattle.std.proofs.lemmas.Bool.{cases_Bool, or_cases, or_left, or_right}
use Rattle.std.proofs.lemmas.List.{length-map}
use Rattle.std.proofs.lemmas.List.Sums.{sum_by-cons}
use Rattle.std.proofs.lemmas.Map.Made.{length-le_from_is_member}
use Rattle.elf_image.specs.Images.{ImageData}
use Rattle.tcd_plan.specs.PlanData.{PlanData}
use Rattle.depth_cert.specs.declared.keys.Key.{Key}
use Rattle.depth_cert.specs.declared.points.Point.{Point}
use Rattle.depth_cert.specs.Nodes.{NodeData, count_points}
use Rattle.depth_cert.specs.Certs.{CertData, IsCert}
use Rattle.cfg_recover.specs.RulesHoldOrFail.{limits_of_cert, Accepts}
use Rattle.depth_cert.specs.Keys.{is_same_key}
use Rattle.cfg_recover.specs.Assignments.{Place, point, exit, is_same_place, assignment_of_cert}
use Rattle.depth_cert.specs.Known.{Known}
use Rattle.cfg_recover.specs.CertRefusals.{HasTooManyNodes, HasTooManyPoints, IsPastCertLimits}
use Rattle.cfg_recover.proofs.Members.{contains_map, contains_flat}
use Rattle.depth_maker.specs.DutiesMonotone.{AreMakerInputs}
use Rattle.frame_places.proofs.KeyLaws.{key_tells, key_same}
use Rattle.depth_maker.proofs.PlaceLaws.{place_tells, place_same}
use Rattle.depth_maker.proofs.Accepted.{at_point, at_exit}

-- ---- tests that decide
module _ {K : Type 0} (same : K → K → Bool) (tells : (x y : K) → same x y ≡ true → x ≡ y) (refl_ : (x : K) → same x x ≡ true) where
  pub decides : IsEquivalence same
  decides = record {
    refl = refl_;
    symm = λ x y. apart x y;
    congr = λ x y z e. ap (λ (u : K). same u z) (tells x y e);
  } where
    apart : (x y : K) → same x y ≡ same y x
    apart x y =
        elim (cases_Bool (same x y)) [
          | inl e ↦ let one = tells x y e in ap (λ (u : K). same u y) one ∙ ap (same y) (sym one)
          | inr e ↦ elim (cases_Bool (same y x)) [
            | inl f ↦ let one = tells y x f in ap (same x) one ∙ ap (λ (u : K). same u x) (sym one)
            | inr f ↦ e ∙ sym f
          ]
        ]

  pub any_contained : (xs : List K) (q : K) → list_any (same q) xs ≡ true → Contains xs q
  any_contained [] q e = absurd (let f : false ≡ true = e in cc)
  any_contained (x ∷ xs) q e =
      elim (or_cases (same q x) (list_any (same q) xs) e) [
        | inl h ↦ (0, omega arith, sym (tells q x h))
        | inr h ↦ let r = any_contained xs q h in (suc r.0, omega (arith, r.1), r.2)
      ]

  pub contained_any : (xs : List K) (q : K) → Contains xs q → list_any (same q) xs ≡ true
  contained_any xs q c = at xs c.0 c.1 c.2 where
    at : (xs : List K) (k : ℕ) → k < length xs → get_or xs k q ≡ q → list_any (same q) xs ≡ true
    at [] k lt e = absurd (omega arith)
    at (x ∷ xs) zero lt e = or_left (same q x) (list_any (same q) xs) (subst (λ (u : K). same q u ≡ true) (sym e) (refl_ q))
    at (x ∷ xs) (suc k) lt e = or_right (same q x) (list_any (same q) xs) (at xs k (omega arith) e)

  -- distinct elements of a list are no more than its length
  pub no_more : (xs ys : List K) → IsDistinct same xs → ((q : K) → Contains xs q → Contains ys q) → length xs ≤ length ys
  no_more xs ys distinct there = length-le_from_is_member decides xs ys distinct (λ q m. contained_any ys q (there q (any_contained xs q m)))

-- ---- nodes and points
places_of : List NodeData → List Place
places_of ns = flat_map (λ (n : NodeData). map (λ (p : Point). point n.key p.addr) n.points) ns

length-places : (ns : List NodeData) → length (places_of ns) ≡ count_points ns
unfolding places_of
length-places [] = refl
length-places (n ∷ ns) =
    let here = map (λ (p : Point). point n.key p.addr) n.points in
    let one : length (places_of (n ∷ ns)) ≡ length here + length (places_of ns) = length-append here (places_of ns) in
    let two : count_points (n ∷ ns) ≡ length n.points + count_points ns = sum_by-cons (λ (m : NodeData). length m.points) n ns in
    omega (arith, one, two, length-map n.points (λ (p : Point). point n.key p.addr), length-places ns)

module _ (cert : CertData) (is_cert : IsCert cert) where
  node_of_point : (k : Key) (p : ℕ) → IsSome (assignment_of_cert cert (point k p)) → Contains (map (λ (n : NodeData). n.key) cert.nodes) k × Contains (places_of cert.nodes) (point k p)
  unfolding places_of
  node_of_point k p some = at (assignment_of_cert cert (point k p)) refl some where
    at : (o : Option Known) → assignment_of_cert cert (point k p) ≡ o → IsSome o → Contains (map (λ (n : NodeData). n.key) cert.nodes) k × Contains (places_of cert.nodes) (point k p)
    at None e is = absurd (let f : false ≡ true = is in cc)
    at (Some v) e is =
        let a = (at_point cert k p v e).2 in
        let key = contains_map (λ (n : NodeData). n.key) cert.nodes a.node a.member in
        let inner = contains_map (λ (q : Point). point (a.node).key q.addr) (a.node).points a.place a.inside in
        let outer = contains_flat (λ (n : NodeData). map (λ (q : Point). point n.key q.addr) n.points) (point (a.node).key (a.place).addr) a.node cert.nodes a.member inner in (
          subst (Contains (map (λ (n : NodeData). n.key) cert.nodes)) a.key key,
          subst (λ (z : Key). Contains (places_of cert.nodes) (point z p)) a.key (subst (λ (z : ℕ). Contains (places_of cert.nodes) (point (a.node).key z)) a.addr outer),
        )

  node_of_exit : (k : Key) → IsSome (assignment_of_cert cert (exit k)) → Contains (map (λ (n : NodeData). n.key) cert.nodes) k
  node_of_exit k some = at (assignment_of_cert cert (exit k)) refl some where
    at : (o : Option Known) → assignment_of_cert cert (exit k) ≡ o → IsSome o → Contains (map (λ (n : NodeData). n.key) cert.nodes) k
    at None e is = absurd (let f : false ≡ true = is in cc)
    at (Some v) e is = let a = (at_exit cert k v e).2 in subst (Contains (map (λ (n : NodeData). n.key) cert.nodes)) a.key (contains_map (λ (n : NodeData). n.key) cert.nodes a.node a.member)

  few_nodes : HasTooManyNodes (assignment_of_cert cert) → ⊥
  few_nodes h =
      let le = no_more is_same_key key_tells key_same h.keys (map (λ (n : NodeData). n.key) cert.nodes) h.distinct
      (λ k c.
      let s = h.stand k c in
      elim s.2 [
        | inl e ↦ node_of_exit k (subst (λ (y : Place). IsSome (assignment_of_cert cert y)) e s.1)
        | inr e ↦ (node_of_point k e.0 (subst (λ (y : Place). IsSome (assignment_of_cert cert y)) e.1 s.1)).0
      ]) in
      absurd (omega (arith, h.more, is_cert.few, length-map cert.nodes (λ (n : NodeData). n.key), le))

  few_points : HasTooManyPoints (assignment_of_cert cert) → ⊥
  few_points h =
      let le = no_more is_same_place place_tells place_same h.places (places_of cert.nodes) h.distinct
      (λ y c.
      let s = h.stand y c in
      subst (Contains (places_of cert.nodes)) (sym (s.1).2) (node_of_point (s.1).0 (s.1).1 (subst (λ (y : Place). IsSome (assignment_of_cert cert y)) (s.1).2 s.0)).1) in
      absurd (omega (arith, h.more, is_cert.points, length-places cert.nodes, le))

  pub cert_within : IsPastCertLimits (assignment_of_cert cert) → ⊥
  cert_within h = elim h [ inl n ↦ few_nodes n | inr n ↦ few_points n ]

pub accepted_within : (image : ImageData) (plan : PlanData) (cert : CertData) → AreMakerInputs (limits_of_cert plan cert) image plan → image.entry < 2 ^ 32 → IsCert cert → Accepts image plan cert → IsPastCertLimits (assignment_of_cert cert) → ⊥
accepted_within image plan cert ground entry is_cert accepted = cert_within cert is_cert
