-- Places of frames: which are the same, and their order.
use Rattle.std.specs.Prelude.{◌≡◌, ◌<◌, ◌+◌, ◌*◌, ◌^◌, ◌==◌, ℕ, Bool, false, List, Option, Some, None, Contains, true}
use Rattle.depth_cert.specs.declared.keys.Key.{Key}
use Rattle.depth_cert.specs.Keys.{IsKey, number_of_key, is_same_key}
use Rattle.frame_places.specs.contracts.places.SpotPartialEq.TheImpl as block
use Rattle.frame_places.specs.declared.places.Spot.{Spot}
use Rattle.frame_places.specs.declared.places.Spot.TheVariants.{Point, Exit}

-- two places of frames are the same, by the equality of the code's places
abbrev pub spot_eq : Spot → Spot → Bool
spot_eq = (block.ghosts).eq

-- the number by which places are sorted: that of the frame's key, then the address
abbrev pub spot_order_number : Spot → ℕ
spot_order_number (Point k p) = number_of_key k * 2 ^ 32 + p
spot_order_number (Exit k) = number_of_key k * 2 ^ 32 + 0

-- the address of a place of a frame: that of a point, 0 for an exit
abbrev pub spot_address : Spot → ℕ
spot_address (Point k p) = p
spot_address (Exit k) = 0

-- a place is the entry point of its frame
abbrev pub is_entry_point : Spot → Bool
is_entry_point (Point k p) = p == k.entry
is_entry_point (Exit k) = false

-- a place is a point of the frame k
abbrev pub is_point_of : Key → Spot → Bool
is_point_of k (Point j p) = is_same_key j k
is_point_of k (Exit j) = false

-- each of these places of frames is a point in range: its frame's key is valid, and its address is
-- below 2^32
abbrev pub ArePointsInRange : List Spot → Type 0
ArePointsInRange ps = (q : Spot) → Contains ps q → (k : Key) × (p : ℕ) × (q ≡ Point k p) × IsKey k × (p < 2 ^ 32)

-- the address of the place y if y is a point of the frame k; or y is no point of k
abbrev pub IsAddressInFrame : Key → Spot → Option ℕ → Type 0
IsAddressInFrame k y None = (p : ℕ) → y ≡ Point k p → ⊥
IsAddressInFrame k y (Some p) = y ≡ Point k p

-- a place is a point
abbrev pub is_point : Spot → Bool
is_point (Point k p) = true
is_point (Exit k) = false

-- a place of a frame that stands in where there is none: the exit of a frame whose key is all zeros
abbrev pub nowhere : Spot
nowhere = Exit (record { kind = 0; entry = 0; prio = 0; is = false })
