-- Equal places.
use Rattle.std.specs.Prelude.{◌≡◌, Bool, refl, true, false, ◌&&◌, nat_eq}
use Rattle.std.proofs.Math.Bool.{beq}
use Rattle.std.proofs.lemmas.Bool.{eq-eqb}
use Rattle.depth_cert.specs.declared.keys.Key.{Key}
use Rattle.frame_places.specs.declared.places.Spot.{Spot}
use Rattle.frame_places.specs.declared.places.Spot.TheVariants.{Point, Exit}
use Rattle.frame_places.specs.Spots.{spot_eq}
pub use Rattle.frame_places.specs.Hashed.{equal_keys_are_same, equal_spots_are_same}

flag_same : (a : Bool) → beq a a ≡ true
flag_same true = refl
flag_same false = refl

pub keys_same : (f : Key) → (nat_eq f.kind f.kind && (nat_eq f.entry f.entry && (nat_eq f.prio f.prio && beq f.is f.is))) ≡ true
keys_same f = rw (eq-eqb f.kind f.kind refl, eq-eqb f.entry f.entry refl, eq-eqb f.prio f.prio refl, flag_same f.is) refl

pub spot_refl : (x : Spot) → spot_eq x x ≡ true
spot_refl (Point f p) = rw (keys_same f, eq-eqb p p refl) refl
spot_refl (Exit f) = keys_same f
