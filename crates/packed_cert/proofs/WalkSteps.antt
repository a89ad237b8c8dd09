-- One step of a walk over points.
use Rattle.std.proofs.Common.{◌≡◌, ℕ, ◌+◌, ◌-◌, ◌<◌, inl, inr, List, [], ◌∷◌, length, get_or, take, drop, refl, sym, ap, ◌∙◌, arith, length-take, length-drop}
use Rattle.std.proofs.lemmas.Bool.{cases_lt}
use Rattle.std.proofs.lemmas.List.{drop_more, get_or-take, get_or-drop, get_or_default}
use Rattle.value_domain.specs.declared.values.Val.{Val}
use Rattle.value_domain.specs.Values.{any_val}
use Rattle.value_domain.specs.declared.states.State.{State}
use Rattle.value_domain.specs.State.{Covers}
use Rattle.depth_cert.specs.declared.points.Point.{Point}
use Rattle.packed_cert.specs.declared.places.PointPlace.{PointPlace}
use Rattle.packed_cert.specs.declared.places.ValueRow.{ValueRow}
use Rattle.packed_cert.specs.ChangedRows.{ChangesOnlyRow}
use Rattle.packed_cert.specs.PointsInBytes.{state_in_bytes, points_in_bytes}
use Rattle.packed_cert.specs.Walks.{KeepsOtherValues}

-- the first of the points that are left
pub first_left : (version : ℕ) (bytes : List ℕ) (ps : List PointPlace) (i : ℕ) (d : PointPlace) (s : State) → i < length ps → s ≡ state_in_bytes version bytes (get_or ps i d).place
    → points_in_bytes version bytes (drop i ps) ≡ record { addr = (get_or ps i d).addr; state = s } ∷ points_in_bytes version bytes (drop (i + 1) ps)
first_left version bytes ps i d s h e =
    ap (points_in_bytes version bytes) (drop_more ps i d h)
    ∙ ap (λ (t : State). let p : Point = record { addr = (get_or ps i d).addr; state = t } in p ∷ points_in_bytes version bytes (drop (i + 1) ps)) (sym e)

-- where that state is at hand
pub next_repeats : (version : ℕ) (bytes : List ℕ) (ps : List PointPlace) (i : ℕ) (d : PointPlace) (s : State) → i < length ps → s ≡ state_in_bytes version bytes (get_or ps i d).place
    → points_in_bytes version bytes (drop i ps) ≡ record { addr = (get_or ps i d).addr; state = s } ∷ drop 1 (points_in_bytes version bytes (drop i ps))
next_repeats version bytes ps i d s h e =
    let first = first_left version bytes ps i d s h e in
    let p : Point = record { addr = (get_or ps i d).addr; state = s } in
    first ∙ ap (λ (l : List Point). p ∷ l) (sym (ap (drop 1) first))

-- where it covers one
pub covers_at : (version : ℕ) (bytes : List ℕ) (ps : List PointPlace) (i : ℕ) (d : PointPlace) (addr : ℕ) (u : State) → i < length ps → (get_or ps i d).addr ≡ addr → Covers (state_in_bytes version bytes (get_or ps i d).place) u
    → (t : State) × (points_in_bytes version bytes (drop i ps) ≡ record { addr = addr; state = t } ∷ drop 1 (points_in_bytes version bytes (drop i ps))) × Covers t u
covers_at version bytes ps i d addr u h e covers =
    let s : State = state_in_bytes version bytes (get_or ps i d).place in
    let rest : List Point = drop 1 (points_in_bytes version bytes (drop i ps)) in
    (s, next_repeats version bytes ps i d s h refl ∙ ap (λ (a : ℕ). let p : Point = record { addr = a; state = s } in p ∷ rest) e, covers)

-- ---- values that were read row
pub keeps_others : (before after : State) (row : ValueRow) (left points : List Point) → ChangesOnlyRow before.regs after.regs row → KeepsOtherValues before (record { points = points; current = after; anew = take (row.behind - row.first) (drop row.first after.regs); left = left })
keeps_others before after row left points h r lt = elim (cases_lt r row.first) [
  | inl low ↦ inl (omega (arith, h.count), h.kept r (omega (arith, h.count)) (inl low))
  | inr from ↦
      elim (cases_lt r row.behind) [
        | inl within ↦
            let x : Val = get_or after.regs r any_val in
            let k : ℕ = r - row.first in
            let there : row.first + k ≡ r = omega arith in
            let read : get_or (take (row.behind - row.first) (drop row.first after.regs)) k x ≡ x =
            get_or-take (row.behind - row.first) (drop row.first after.regs) k x (omega arith)
            ∙ get_or-drop row.first after.regs k x
            ∙ ap (λ (j : ℕ). get_or after.regs j x) there
            ∙ get_or_default after.regs r x any_val lt
            in
            inr (k, omega (arith, length-take (row.behind - row.first) (drop row.first after.regs), length-drop row.first after.regs, h.within, h.count), read)
        | inr behind ↦ inl (omega (arith, h.count), h.kept r (omega (arith, h.count)) (inr behind))
      ]
]
