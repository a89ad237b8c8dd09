-- The reading of a point after others: its address, and then its state in place.
use Rattle.std.specs.Prelude.{◌≡◌, ℕ, List, Ok, Err}
use Rattle.std.proofs.Common.{refl}
use Rattle.tcd_base.specs.declared.errors.FormErr.{FormErr}
use Rattle.tcd_base.specs.Place.{Place}
use Rattle.value_domain.specs.declared.states.State.{State}
use Rattle.depth_cert.specs.declared.points.Point.{Point}
use Rattle.depth_cert.specs.Points.{addresses}
use Rattle.depth_cert.specs.Grammar.{last_number, address_after, state_at, point_after}

pub point_reads : (version : ℕ) (before : List Point) (p q r : Place) (addr : ℕ) (s : State) → address_after (last_number (addresses before)) p ≡ Ok (addr, q)
    → state_at version q ≡ Ok (s, r) → point_after version before p ≡ Ok (record { addr = addr; state = s }, r)
unfolding point_after
point_reads version before p q r addr s a b = rw (a, b) refl

pub address_fails : (version : ℕ) (before : List Point) (p : Place) (e : FormErr) → address_after (last_number (addresses before)) p ≡ Err e → point_after version before p ≡ Err e
unfolding point_after
address_fails version before p e a = rw a refl

pub state_fails : (version : ℕ) (before : List Point) (p q : Place) (addr : ℕ) (e : FormErr) → address_after (last_number (addresses before)) p ≡ Ok (addr, q)
    → state_at version q ≡ Err e → point_after version before p ≡ Err e
unfolding point_after
state_fails version before p q addr e a b = rw (a, b) refl
