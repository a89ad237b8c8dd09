-- Points found by address.
use Rattle.std.proofs.Common.{◌≡◌, ℕ, ◌+◌, ◌<◌, ◌≤◌, List, [], ◌∷◌, length, map, get_or, true, false, Option, Some, None, Bool, refl, sym, ap, subst, ◌∙◌, arith, ltb, eqb, inl, inr}
use Rattle.std.specs.Prelude.{IsTrue, IsSomeAnd, ◌↔◌}
use Rattle.std.specs.Option.{option_map}
use Rattle.std.specs.List.{find}
use Rattle.std.specs.List.Sorted.{IsStrictlyIncreasing, IsPartitionPoint}
use Rattle.std.proofs.Common.{eq-eqb}
use Rattle.value_domain.specs.declared.states.State.{State}
use Rattle.value_domain.specs.State.{Covers, FlagsImply}
use Rattle.std.proofs.lemmas.Bool.{cases_Bool, lt-ltb, le-ltb, ne_eqb}
use Rattle.std.proofs.lemmas.List.{length-map, get_or-map, get_or_default}
use Rattle.depth_cert.specs.declared.points.Point.{Point}
use Rattle.depth_cert.specs.Points.{find_point}
use Rattle.depth_cert.proofs.FindLaws.{non_decreasing, found, missing, missing_end}
use Rattle.packed_cert.specs.declared.places.PointPlace.{PointPlace}
use Rattle.packed_cert.specs.PointsInBytes.{point_in_bytes, points_in_bytes, state_in_bytes}

-- finding in the points is finding in what is kept of them
pub find_in : (version : ℕ) (bytes : List ℕ) (addr : ℕ) (ps : List PointPlace) → find_point addr (points_in_bytes version bytes ps) ≡ option_map (point_in_bytes version bytes) (find (λ p. eqb p.addr addr) ps)
find_in version bytes addr [] = refl
find_in version bytes addr (p ∷ ps) = elim (cases_Bool (eqb p.addr addr)) [ inl t ↦ rw t refl | inr f ↦ rw f (find_in version bytes addr ps) ]

-- the place of an address parts the points
pub parts_at : {A : Type 0} (f : A → ℕ) (xs : List A) (x i : ℕ) (d : A) → IsStrictlyIncreasing (map f xs) → i < length xs → f (get_or xs i d) ≡ x
    → IsPartitionPoint (λ y. ltb (f y) x ≡ true) (λ y. ltb (f y) x ≡ false) xs i
parts_at f xs x i d rising h e = (
  (λ k d2 z lt.
      let step = rising k (omega (arith, length-map xs f)) in
      let low = get_or-map f xs k d2 0 (omega arith) in
      let next = get_or-map f xs (k + 1) d2 0 (omega arith) in
      let up = non_decreasing f xs rising (k + 1) i d2 (omega arith) h in
      let same = ap f (get_or_default xs i d d2 h) in
      lt-ltb _ _ (omega arith)),
  (λ k d2 le l.
      let up = non_decreasing f xs rising i k d2 le l in
      let same = ap f (get_or_default xs i d d2 h) in
      le-ltb _ _ (omega arith)),
)

-- the point at an address, by the place that parts the points
pub point_found : (version : ℕ) (bytes : List ℕ) (addr i : ℕ) (d : PointPlace) (ps : List PointPlace) → i < length ps → IsPartitionPoint (λ p. ltb p.addr addr ≡ true) (λ p. ltb p.addr addr ≡ false) ps i
    → (get_or ps i d).addr ≡ addr → find_point addr (points_in_bytes version bytes ps) ≡ Some (point_in_bytes version bytes (get_or ps i d))
point_found version bytes addr i d ps h place e =
    let number : PointPlace → ℕ = λ p. p.addr in
    find_in version bytes addr ps ∙ ap (option_map (point_in_bytes version bytes)) (found number ps addr i d h place (eq-eqb _ _ e))

pub point_missing : (version : ℕ) (bytes : List ℕ) (addr i : ℕ) (d : PointPlace) (ps : List PointPlace) → IsStrictlyIncreasing (map (λ p. p.addr) ps)
    → IsPartitionPoint (λ p. ltb p.addr addr ≡ true) (λ p. ltb p.addr addr ≡ false) ps i → ((get_or ps i d).addr ≡ addr → ⊥) → find_point addr (points_in_bytes version bytes ps) ≡ None
point_missing version bytes addr i d ps rising place other =
    let number : PointPlace → ℕ = λ p. p.addr in
    find_in version bytes addr ps ∙ ap (option_map (point_in_bytes version bytes)) (missing number ps addr i d rising place (ne_eqb _ _ other))

pub point_past : (version : ℕ) (bytes : List ℕ) (addr i : ℕ) (ps : List PointPlace) → IsPartitionPoint (λ p. ltb p.addr addr ≡ true) (λ p. ltb p.addr addr ≡ false) ps i → length ps ≤ i
    → find_point addr (points_in_bytes version bytes ps) ≡ None
point_past version bytes addr i ps place end =
    let number : PointPlace → ℕ = λ p. p.addr in
    find_in version bytes addr ps ∙ ap (option_map (point_in_bytes version bytes)) (missing_end number ps addr i place end)

-- the state at an address
abbrev pub state_of : ℕ → List Point → Option State
state_of addr ps = option_map (λ p. p.state) (find_point addr ps)

-- a state covers itself
implied_same : (xs : List Bool) → FlagsImply xs xs
implied_same [] = tt
implied_same (x ∷ xs) = ((λ t. t), implied_same xs)

pub covers_same : (s : State) → Covers s s
covers_same s = record { regs = λ r h x m. m; context = ((λ t. t), omega arith, (λ t. t)); locals = implied_same s.locals.items }

-- whether the point at an address covers a state, if it was found and if there is none
pub covered_found : (version : ℕ) (bytes : List ℕ) (addr i : ℕ) (d : PointPlace) (ps : List PointPlace) (s : State) (b : Bool) → i < length ps
    → IsPartitionPoint (λ p. ltb p.addr addr ≡ true) (λ p. ltb p.addr addr ≡ false) ps i → (get_or ps i d).addr ≡ addr → (IsTrue b ↔ Covers (state_in_bytes version bytes (get_or ps i d).place) s)
    → IsTrue b ↔ IsSomeAnd (find_point addr (points_in_bytes version bytes ps)) (λ p. Covers p.state s)
covered_found version bytes addr i d ps s b h place e is =
    subst (λ (o : Option Point). IsTrue b ↔ IsSomeAnd o (λ p. Covers p.state s)) (sym (point_found version bytes addr i d ps h place e)) is

pub covered_missing : (addr : ℕ) (ps : List Point) (s : State) → find_point addr ps ≡ None → IsTrue false ↔ IsSomeAnd (find_point addr ps) (λ p. Covers p.state s)
covered_missing addr ps s none =
    subst (λ (o : Option Point). IsTrue false ↔ IsSomeAnd o (λ p. Covers p.state s)) (sym none) (λ t. absurd (let f : false ≡ true = t in cc), λ never. absurd never)
