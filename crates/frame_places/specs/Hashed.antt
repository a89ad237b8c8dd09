-- How places are hashed: equal places have the same word of eight bytes.
use Rattle.std.specs.Prelude.{◌≡◌, ◌+◌, ◌*◌, ◌^◌, ◌%◌, ℕ, Bool, refl, true, false, ◌&&◌, nat_eq}
use Rattle.std.specs.Hash as fed
use Rattle.std.proofs.Common.{ap}
use Rattle.std.proofs.Math.Bool.{beq}
use Rattle.std.proofs.lemmas.Bool.{eqb-true, and_parts}
use Rattle.depth_cert.specs.declared.keys.Key.{Key}
use Rattle.frame_places.specs.declared.places.Spot.{Spot}
use Rattle.frame_places.specs.declared.places.Spot.TheVariants.{Point, Exit}
use Rattle.depth_cert.specs.Keys.{number_of_key}
use Rattle.frame_places.specs.Spots.{spot_eq}
use Rattle.frame_places.specs.declared.needs.reach.FrameEdge.{FrameEdge}
use Rattle.frame_places.specs.contracts.needs.reach.FrameEdgePartialEq.TheImpl as block

-- in the hash input of places, numbers that compare as equal are the same
equal_numbers_are_same : (a b : ℕ) → nat_eq a b ≡ true → a ≡ b
equal_numbers_are_same a b e = eqb-true a b e

-- in the keys of hashed places, flags that compare as equal are the same
equal_flags_are_same : (a b : Bool) → beq a b ≡ true → a ≡ b
equal_flags_are_same true true e = refl
equal_flags_are_same false false e = refl
equal_flags_are_same true false e = cc
equal_flags_are_same false true e = cc

-- keys of frames that compare as equal in all fields are the same, as the hash map of places needs
-- it
pub equal_keys_are_same : (f g : Key) → (nat_eq f.kind g.kind && (nat_eq f.entry g.entry && (nat_eq f.prio g.prio && beq f.is g.is))) ≡ true → f ≡ g
equal_keys_are_same f g e =
    let a = and_parts _ _ e in
    let b = and_parts _ _ a.1 in
    let c = and_parts _ _ b.1 in
    let kind = equal_numbers_are_same f.kind g.kind a.0 in
    let entry = equal_numbers_are_same f.entry g.entry b.0 in
    let prio = equal_numbers_are_same f.prio g.prio c.0 in
    let is = equal_flags_are_same f.is g.is c.1 in
    λ i. record { kind = kind i; entry = entry i; prio = prio i; is = is i }

-- for hashing: places that compare as equal are the same
pub equal_spots_are_same : (x y : Spot) → spot_eq x y ≡ true → x ≡ y
equal_spots_are_same (Point f p) (Point g q) e = let h = and_parts _ _ e in let same = equal_keys_are_same f g h.0 in let addr = equal_numbers_are_same p q h.1 in λ i. Point (same i) (addr i)
equal_spots_are_same (Point f p) (Exit g) e = cc
equal_spots_are_same (Exit f) (Point g q) e = cc
equal_spots_are_same (Exit f) (Exit g) e = ap Exit (equal_keys_are_same f g e)

-- the word by which a place is hashed: the low four bytes of the frame's number, then the address
abbrev pub hashed_word : Spot → ℕ
hashed_word (Point k p) = number_of_key k % 2 ^ 32 * 2 ^ 32 + p
hashed_word (Exit k) = number_of_key k % 2 ^ 32 * 2 ^ 32

-- equal places have the same hash input
pub equal_spots_hash_alike : (x y : Spot) → spot_eq x y ≡ true → fed.u64 (hashed_word x) ≡ fed.u64 (hashed_word y)
equal_spots_hash_alike x y e = ap (λ (z : Spot). fed.u64 (hashed_word z)) (equal_spots_are_same x y e)

-- edge equality, as sets compare edges
abbrev pub edge_eq : FrameEdge → FrameEdge → Bool
edge_eq = (block.ghosts).eq
