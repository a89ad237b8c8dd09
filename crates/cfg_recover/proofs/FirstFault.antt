-- The first fault among points and nodes that are looked at one after another.
use Rattle.std.proofs.Common.{◌≡◌, ℕ, ◌+◌, ◌*◌, ◌^◌, ◌<◌, ◌≤◌, ◌⊎◌, inl, inr, Bool, true, false, List, length, get_or, take, map, IsTrue, refl, sym, ap, ◌∙◌, subst, arith}
use Rattle.std.specs.Prelude.{All, Contains, ◌↔◌}
use Rattle.std.specs.List.Sorted.{IsStrictlyIncreasing}
use Rattle.std.proofs.lemmas.Bool.{cases_lt}
use Rattle.std.proofs.lemmas.List.{get_or-take, get_or-map, length-take, length-map, take_all}
use Rattle.std.proofs.lemmas.List.Elements.{All-contains, All-more, All-same, at_read}
use Rattle.std.proofs.lemmas.List.Kept.{AllPairs-from_increasing}
use Rattle.elf_image.specs.Images.{ImageData}
use Rattle.tcd_plan.specs.PlanData.{PlanData}
use Rattle.value_domain.specs.State.{AreInLattice}
use Rattle.depth_cert.specs.declared.points.Point.{Point}
use Rattle.depth_cert.specs.Keys.{number_of_key}
use Rattle.depth_cert.specs.Points.{AreAscendingPoints, IsPoint}
use Rattle.depth_cert.specs.Nodes.{NodeData, IsNode}
use Rattle.depth_cert.specs.Certs.{CertData, IsCert}
use Rattle.cfg_recover.specs.RulesHoldOrFail.{limits_of_cert, Accepts, RulesHoldAtNode}

-- ---- rising lists
-- In a list in ascending order, an element is before the one at i, or is that one, or has a greater
-- number.
pub place_of : {A : Type 0} (f : A → ℕ) (xs : List A) (i : ℕ) (x y : A) → IsStrictlyIncreasing (map f xs) → i < length xs → y ≡ get_or xs i y → Contains xs x → Contains (take i xs) x ⊎ ((x ≡ y) ⊎ (f y < f x))
place_of f xs i x y rising lt at (k, within, is) =
    let here : get_or xs i x ≡ y = at_read xs (λ z. z ≡ y) i y lt at refl x in
    elim (cases_lt k i) [
      | inl before ↦ inl (k, omega (arith, length-take i xs), get_or-take i xs k x before ∙ is)
      | inr from ↦
          elim (cases_lt i k) [
            | inl above ↦
                let less = AllPairs-from_increasing (map f xs) rising i k 0 above (omega (arith, length-map xs f)) in
                inr (inr (omega (arith, less, get_or-map f xs i x 0 lt, get_or-map f xs k x 0 within, ap f here, ap f is)))
            | inr to ↦ let same : k ≡ i = omega arith in inr (inl (sym is ∙ ap (λ n. get_or xs n x) same ∙ here))
          ]
    ]

-- P holds of one more element, the one that is read as an item
pub all_more : {X : Type 0} (P : X → Type 0) (xs : List X) (i : ℕ) (x : X) → i < length xs → x ≡ get_or xs i x → All P (take i xs) → P x → All P (take (i + 1) xs)
all_more P xs i x lt is h p = All-more P xs i x lt h (subst P is p)

-- P holds of all elements
pub all_done : {X : Type 0} (P : X → Type 0) (xs : List X) (i : ℕ) → length xs ≤ i → All P (take i xs) → All P xs
all_done P xs i past h = All-same P xs (take i xs) (sym (take_all i xs past)) h

-- if a test says no, P doesn't hold
pub broken : (b : Bool) (P : Type 0) → b ≡ false → (IsTrue b ↔ P) → P → ⊥
broken b P fails both p = absurd (let f : false ≡ true = sym fails ∙ both.1 p in cc)

-- ---- a rule that points keep or break
module _ (Keeps : Point → Type 0) (node : NodeData) (points : List Point) (same : points ≡ node.points) where
  -- If Keeps holds at all points before this one, no point at which it fails has a lesser address.
  pub least_point : (i : ℕ) (point other : Point) → AreAscendingPoints node.points → i < length points → point ≡ get_or points i point → All Keeps (take i points) → Contains node.points other → (Keeps other → ⊥)
      → point.addr ≤ other.addr
  least_point i point other rising lt at before stands wrong =
      let up = subst AreAscendingPoints (sym same) rising in
      elim (place_of (λ (z : Point). z.addr) points i other point up lt at (subst (λ (l : List Point). Contains l other) (sym same) stands)) [
        | inl earlier ↦ absurd (wrong (All-contains Keeps (take i points) other before earlier))
        | inr later ↦
            elim later [
              | inl e ↦ omega (arith, ap (λ (z : Point). z.addr) e)
              | inr above ↦ omega arith
            ]
      ]

module _ (Keeps : NodeData → Point → Type 0) (cert : CertData) (is_cert : IsCert cert) (nodes : List NodeData) (same : nodes ≡ cert.nodes) where
  abbrev Number : NodeData → ℕ
  Number n = number_of_key n.key

  -- the node that is read as an item is one of the certificate's
  pub in_cert : (i : ℕ) (node : NodeData) → i < length nodes → node ≡ get_or nodes i node → Contains cert.nodes node
  in_cert i node lt at = subst (λ (l : List NodeData). Contains l node) same (i, lt, sym at)

  -- If Keeps holds at all nodes before this one, and at its points of lesser addresses, no place at
  -- which it fails comes before.
  pub least_place : (i : ℕ) (node other : NodeData) (p : ℕ) (point : Point) → i < length nodes → node ≡ get_or nodes i node → All (λ (n : NodeData). All (Keeps n) n.points) (take i nodes)
      → ((z : Point) → Contains node.points z → (Keeps node z → ⊥) → p ≤ z.addr) → p < 2 ^ 32 → Contains cert.nodes other → Contains other.points point → (Keeps other point → ⊥)
      → number_of_key node.key * 2 ^ 32 + p ≤ number_of_key other.key * 2 ^ 32 + point.addr
  least_place i node other p point lt at before least small member stands wrong =
      let up = subst (λ (l : List NodeData). IsStrictlyIncreasing (map Number l)) (sym same) is_cert.rising in
      elim (place_of Number nodes i other node up lt at (subst (λ (l : List NodeData). Contains l other) (sym same) member)) [
        | inl earlier ↦ absurd (wrong (All-contains (Keeps other) other.points point (All-contains (λ (n : NodeData). All (Keeps n) n.points) (take i nodes) other before earlier) stands))
        | inr later ↦
            elim later [
              | inl e ↦
                  let le = least point (subst (λ (n : NodeData). Contains n.points point) e stands) (subst (λ (n : NodeData). Keeps n point → ⊥) e wrong) in
                  omega (arith, ap Number e)
              | inr above ↦ omega arith
            ]
      ]

-- addresses of a certificate's points are words
pub address_small : (cert : CertData) → IsCert cert → (node : NodeData) (point : Point) → Contains cert.nodes node → Contains node.points point → point.addr < 2 ^ 32
address_small cert is_cert node point member stands =
    let is = All-contains (IsNode cert.version) cert.nodes node is_cert.nodes member in
    (All-contains (IsPoint cert.version) node.points point is.points stands).addr

-- ---- values that are accepted
-- the values of an accepted certificate are of the plan's lattice (K2)
pub accepted_values : (image : ImageData) (plan : PlanData) (cert : CertData) (node : NodeData) → Accepts image plan cert → Contains cert.nodes node → All (λ (p : Point). AreInLattice (limits_of_cert plan cert) (p.state).regs) node.points
accepted_values image plan cert node accepts member i d lt =
    let holds = All-contains (RulesHoldAtNode image plan cert) cert.nodes node accepts.nodes member in
    (holds.points i d lt 2).values refl
