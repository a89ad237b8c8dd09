-- Nodes by ascending need, and the nodes before a node.
use Rattle.std.proofs.Common.{◌≡◌, ◌==◌, ℕ, zero, suc, ◌+◌, ◌-◌, ◌<◌, ◌≤◌, true, false, cond, List, length, get_or, take, inl, inr, sym, ap, ◌∙◌, arith, Contains}
use Rattle.std.specs.Ordering.{is_lt, nat_cmp, ordering_then}
use Rattle.std.specs.declared.cmp.Ordering.{Ordering}
use Rattle.std.specs.List.Sorted.{IsSortedBy}
use Rattle.std.proofs.lemmas.Bool.{cases_lt, lt-ltb}
use Rattle.std.proofs.lemmas.List.{get_or-take, get_or_default, length-take}
use Rattle.depth_cert.specs.declared.keys.Key.{Key}

-- ---- ascending needs
-- the order is by the need first, then by anything
pub before_or_same : (cmp : Key → Key → Ordering) (x y : ℕ × Key) → is_lt (ordering_then (nat_cmp y.0 x.0) (cmp y.1 x.1)) ≡ false → x.0 ≤ y.0
before_or_same cmp x y h =
    elim (cases_lt y.0 x.0) [
      | inl lt ↦ absurd (let e : true ≡ false = sym (ap (λ b. is_lt (ordering_then (cond b Ordering.Less (cond (y.0 == x.0) Ordering.Equal Ordering.Greater)) (cmp y.1 x.1))) (lt-ltb y.0 x.0 lt)) ∙ h in cc)
      | inr ge ↦ ge
    ]

pub needs_rise : (cmp : Key → Key → Ordering) (rs : List (ℕ × Key)) → IsSortedBy (λ x y. is_lt (ordering_then (nat_cmp x.0 y.0) (cmp x.1 y.1))) rs → (i n : ℕ) (d : ℕ × Key) → i + n < length rs → (get_or rs i d).0 ≤ (get_or rs (i + n) d).0
needs_rise cmp rs sorted i zero d lt = let e : i + 0 ≡ i = omega arith in ap_le (ap (λ k. (get_or rs k d).0) (sym e))
  where
    ap_le : {a b : ℕ} → a ≡ b → a ≤ b
    ap_le e = omega (arith, e)
needs_rise cmp rs sorted i (suc n) d lt =
    let before : (get_or rs i d).0 ≤ (get_or rs (i + n) d).0 = needs_rise cmp rs sorted i n d (omega (arith, lt)) in
    let step : (get_or rs (i + n) d).0 ≤ (get_or rs (i + n + 1) d).0 = before_or_same cmp (get_or rs (i + n) d) (get_or rs (i + n + 1) d) (sorted (i + n) d (omega arith) (omega (arith, lt))) in
    let on : i + n + 1 ≡ i + suc n = omega arith in
    omega (arith, before, step, ap (λ k. (get_or rs k d).0) on)

-- a rank with a lesser need comes before
pub stands_before : (cmp : Key → Key → Ordering) (rs : List (ℕ × Key)) → IsSortedBy (λ x y. is_lt (ordering_then (nat_cmp x.0 y.0) (cmp x.1 y.1))) rs → (i : ℕ) (r x : ℕ × Key) → i < length rs → x ≡ get_or rs i x → Contains rs r → r.0 < x.0 → Contains (take i rs) r
stands_before cmp rs sorted i r x lt at c less =
    elim (cases_lt c.0 i) [
      | inl before ↦ (c.0, (let n = length-take i rs in omega (arith, n, before, lt)), get_or-take i rs c.0 r before ∙ c.2)
      | inr after ↦
          absurd (
          let n : ℕ = c.0 - i in
          let whole : i + n ≡ c.0 = omega (arith, after) in
          let rise = needs_rise cmp rs sorted i n r (omega (arith, whole, c.1)) in
          omega (arith, rise, ap (λ k. (get_or rs k r).0) whole ∙ ap (λ q. q.0) c.2, ap (λ q. q.0) (get_or_default rs i r x lt ∙ sym at), less)
          )
    ]
