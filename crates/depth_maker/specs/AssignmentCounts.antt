-- The points and frames of an assignment, each once.
use Rattle.std.specs.Prelude.{◌≡◌, ◌≤◌, ◌^◌, ℕ, List, length, IsSome, Contains, map}
use Rattle.std.specs.List.{IsDistinct}
use Rattle.depth_cert.specs.declared.keys.Key.{Key}
use Rattle.depth_cert.specs.Keys.{is_same_key}
use Rattle.cfg_recover.specs.Assignments.{Place, point, Assignment, is_same_place, key_of_place}
use Rattle.indexmap.specs.IndexMap.{IndexMap}
use Rattle.depth_cert.specs.Known.{Known}
use Rattle.frame_places.specs.declared.places.Spot.{Spot}
use Rattle.frame_places.specs.declared.places.Marked.{Marked}
use Rattle.depth_maker.specs.SpotsAsPlaces.{spot_of, place_of_spot}
use Rattle.frame_places.specs.Marks.{value_of_place}

-- ps are the known points, ks the frames with a place, each once; each frame has its entry point
pub record ListsPointsAndFrames (a : Assignment) (ps : List Place) (ks : List Key) : Type 0 where
  pub points : (k : Key) (p : ℕ) → IsSome (a (point k p)) → Contains ps (point k p)
  pub known : (y : Place) → Contains ps y → IsSome (a y) × ((k : Key) × (p : ℕ) × (y ≡ point k p))
  pub once : IsDistinct is_same_place ps
  pub frames : (y : Place) → IsSome (a y) → Contains ks (key_of_place y)
  pub entered : (k : Key) → Contains ks k → IsSome (a (point k k.entry))
  pub once_each : IsDistinct is_same_key ks

-- the points and frames that the maker has found are within the limits of certificates: 65,536
-- points, 2,048 frames
pub record AreWithinCertLimits (ps : List Place) (ks : List Key) : Type 0 where
  pub points : length ps ≤ 2 ^ 16
  pub frames : length ks ≤ 2048

-- the maker's lists have each known point and frame of the table once, within the limits of
-- certificates
pub record ListsTablePlaces {S : Type 0} (places : IndexMap Spot (Marked Known) S) (ps : List Spot) (ks : List Key) : Type 0 where
  pub each : ListsPointsAndFrames (λ q. value_of_place places (spot_of q)) (map place_of_spot ps) ks
  pub few : AreWithinCertLimits (map place_of_spot ps) ks
