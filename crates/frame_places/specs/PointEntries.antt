-- The points of a map, by the numbers of its entries.
use Rattle.std.specs.Prelude.{◌≡◌, ◌<◌, ◌+◌, ◌*◌, ◌^◌, ◌&&◌, ℕ, Bool, not, nat_lt, List, ◌∷◌, length, map, filter, Option, Some, None, Contains, slice_index_or, []}
use Rattle.indexmap.specs.IndexMap.{IndexMap, keys}
use Rattle.depth_cert.specs.declared.keys.Key.{Key}
use Rattle.depth_cert.specs.Keys.{number_of_key}
use Rattle.frame_places.specs.Spots.{spot_order_number, is_point, nowhere}
use Rattle.frame_places.specs.declared.ordering.PointEntry.{PointEntry}
use Rattle.frame_places.specs.declared.places.Spot.{Spot}
use Rattle.frame_places.specs.declared.places.Spot.TheVariants.{Point, Exit}

-- the points among the places of a map, in the map's order
abbrev pub points_in : {X S : Type 0} → IndexMap Spot X S → List Spot
points_in m = filter is_point (keys m)

-- the place of an entry of the map of places
abbrev pub place_of_entry : {X S : Type 0} → IndexMap Spot X S → PointEntry → Spot
place_of_entry m x = slice_index_or (keys m) x.entry nowhere

-- the places of entries, in their order
abbrev pub places_of_entries : {X S : Type 0} → IndexMap Spot X S → List PointEntry → List Spot
places_of_entries m xs = map (place_of_entry m) xs

-- these are entries of the map of places, each with the number by which its place is sorted
pub record ArePointEntries {X S : Type 0} (m : IndexMap Spot X S) (xs : List PointEntry) : Type 0 where
  pub within : (x : PointEntry) → Contains xs x → x.entry < length (keys m)
  pub order : (x : PointEntry) → Contains xs x → x.order ≡ spot_order_number (place_of_entry m x)

-- the entry of a place with this number if the place is a point, else none
abbrev pub point_entry_of : Option Spot → ℕ → List PointEntry
point_entry_of None i = []
point_entry_of (Some (Point k p)) i = record { order = spot_order_number (Point k p); entry = i } ∷ []
point_entry_of (Some (Exit k)) i = []

-- the entry is of a point of frame k, by the number by which entries are sorted
abbrev pub is_in_frame : Key → PointEntry → Bool
is_in_frame k x = not (nat_lt x.order (number_of_key k * 2 ^ 32)) && nat_lt x.order (number_of_key k * 2 ^ 32 + 2 ^ 32)
