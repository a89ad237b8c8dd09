-- Numbers of frames and of places.
use Rattle.std.specs.Prelude.{◌≡◌, ◌+◌, ℕ, Bool, List, ◌∷◌, Some, Contains, if◌then◌else◌, slice_get, []}
use Rattle.indexmap.specs.IndexMap.{IndexMap, get, keys}
use Rattle.depth_cert.specs.declared.keys.Key.{Key}
use Rattle.depth_cert.specs.contracts.keys.KeyPartialEq.TheImpl as block
use Rattle.depth_cert.specs.Keys.{is_same_key}
use Rattle.frame_places.specs.declared.places.Spot.{Spot}
use Rattle.frame_places.specs.declared.places.Marked.{Marked}

-- the equality of keys in the map from frames to their numbers
abbrev pub frame_key_eq : Key → Key → Bool
frame_key_eq = (block.ghosts).eq

-- the number of the frame with this key: the key's first index in the list, or the length of the
-- list without that key
abbrev pub frame_number_in : List Key → Key → ℕ
frame_number_in [] k = 0
frame_number_in (j ∷ js) k = if is_same_key j k then 0 else frame_number_in js k + 1

-- the map gives each of these known frames its number, the position in the list of frames
pub record AreFrameNumbers {S : Type 0} (numbers : IndexMap Key ℕ S) (frames : List Key) (known : List Key) : Type 0 where
  pub each : (k : Key) → Contains known k → get frame_key_eq numbers k ≡ Some (frame_number_in frames k)

-- the map gives each of these frames its number, the position in this list
abbrev pub AreNumbersOfFrames : {S : Type 0} → IndexMap Key ℕ S → List Key → Type 0
AreNumbersOfFrames numbers frames = AreFrameNumbers numbers frames frames

-- the place x has this number, the position in the map of places
abbrev pub PlaceHasNumber : {X S : Type 0} → IndexMap Spot X S → ℕ → Spot → Type 0
PlaceHasNumber m number x = slice_get (keys m) number ≡ Some x

-- each place of the old map of places has the same number in the new one
abbrev pub KeepsPlaceNumbers : {V S : Type 0} → IndexMap Spot (Marked V) S → IndexMap Spot (Marked V) S → Type 0
KeepsPlaceNumbers old new = (number : ℕ) (q : Spot) → PlaceHasNumber old number q → PlaceHasNumber new number q
