-- Points whose states are left where they stand.
use Rattle.std.proofs.Common.{◌≡◌, ℕ, ◌+◌, ◌≤◌, List, [], ◌∷◌, ◌++◌, length, map, true, false, Result, Ok, refl, sym, ap, ◌∙◌, subst, arith}
use Rattle.std.specs.Prelude.{Option, Some, None, IsSome, OnSome, ◌↔◌}
use Rattle.std.proofs.lemmas.List.{map-append}
use Rattle.tcd_base.specs.declared.errors.FormErr.{FormErr}
use Rattle.tcd_base.specs.Place.{Place}
use Rattle.value_domain.specs.declared.values.Val.{Val}
use Rattle.value_domain.specs.declared.states.State.{State}
use Rattle.depth_cert.specs.declared.points.Point.{Point}
use Rattle.depth_cert.specs.Points.{addresses}
use Rattle.depth_cert.specs.Grammar.{values_at, state_at, last_number, address_after, point_after}
use Rattle.depth_cert.proofs.PointReads.{point_reads}
use Rattle.packed_cert.specs.declared.places.PointPlace.{PointPlace}
use Rattle.packed_cert.specs.ValuesInBytes.{AreValuesBetween, place_in_bytes}
use Rattle.packed_cert.specs.PointsInBytes.{state_in_bytes, point_in_bytes, points_in_bytes}
use Rattle.packed_cert.proofs.SameBytes.{Small, values_stand}

-- the values that were read stand where they were read
pub read_stand : (version n : ℕ) (bytes : List ℕ) (c : Place) (vs : List Val) (q : Place) (x : ℕ) → Small bytes → c.bytes ≡ bytes → x ≡ c.place → x ≤ length bytes → values_at version n c ≡ Ok (vs, q)
    → (x ≤ length bytes) × AreValuesBetween version bytes x vs q.place
unfolding values_at
read_stand version n bytes c vs q x small b p h e =
    let there : place_in_bytes bytes x ≡ c = ap (λ (k : ℕ). place_in_bytes bytes k) p ∙ ap (λ (l : List ℕ). place_in_bytes l c.place) (sym b) in
    let s = values_stand version bytes n x [] vs q small h (ap (values_at version n) there ∙ e) in
    (h, subst (λ (l : List Val). AreValuesBetween version bytes x l q.place) (sym s.is) s.stand)

pub addresses_in : (version : ℕ) (bytes : List ℕ) (ps : List PointPlace) → addresses (points_in_bytes version bytes ps) ≡ map (λ p. p.addr) ps
addresses_in version bytes [] = refl
addresses_in version bytes (p ∷ ps) = ap (λ (l : List ℕ). p.addr ∷ l) (addresses_in version bytes ps)

-- one point more, whose state is at its place, too
pub point_more : (version : ℕ) (bytes : List ℕ) (ps : List PointPlace) (item : PointPlace) (c q r : Place) (s : State) → state_in_bytes version bytes item.place ≡ s
    → address_after (last_number (map (λ p. p.addr) ps)) c ≡ Ok (item.addr, q) → state_at version q ≡ Ok (s, r)
    → point_after version (points_in_bytes version bytes ps) c ≡ Ok (point_in_bytes version bytes item, r)
point_more version bytes ps item c q r s there a e =
    point_reads version (points_in_bytes version bytes ps) c q r item.addr s (ap (λ (l : List ℕ). address_after (last_number l) c) (addresses_in version bytes ps) ∙ a) e
    ∙ ap (λ (t : State). let x : Result (Point × Place) FormErr = Ok (record { addr = item.addr; state = t }, r) in x) (sym there)

pub points_push : (version : ℕ) (bytes : List ℕ) (ps : List PointPlace) (p : PointPlace) → points_in_bytes version bytes (ps ++ p ∷ []) ≡ points_in_bytes version bytes ps ++ point_in_bytes version bytes p ∷ []
points_push version bytes ps p = map-append (point_in_bytes version bytes) ps (p ∷ [])

pub took : {A : Type 0} (r : Option A) (P : Type 0) (n len : ℕ) → (IsSome r ↔ (0 + n ≤ len)) → OnSome r P → n ≤ len → P
took (Some x) P n len there moved h = moved
took None P n len there moved h = absurd (let g : false ≡ true = there.1 (omega arith) in cc)
