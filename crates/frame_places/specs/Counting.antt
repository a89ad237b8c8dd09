-- The points and frames that are counted, and the limits of certificates.
use Rattle.std.specs.Prelude.{◌≡◌, ◌⊎◌, ◌==◌, ◌^◌, Bool, false, List, ◌∷◌, ◌++◌, length, if◌then◌else◌, []}
use Rattle.depth_cert.specs.declared.keys.Key.{Key}
use Rattle.frame_places.specs.declared.places.Spot.{Spot}
use Rattle.frame_places.specs.declared.places.Spot.TheVariants.{Point, Exit}
use Rattle.frame_places.specs.declared.refusals.Refusal.{Refusal}
use Rattle.frame_places.specs.declared.refusals.Refusal.TheVariants.{Fault, NoMemory}

-- the maker's frames with that of one more place, if it is an entry point
abbrev pub frames_with_entry : List Key → Spot → List Key
frames_with_entry ks (Point k p) = if p == k.entry then ks ++ k ∷ [] else ks
frames_with_entry ks (Exit k) = ks

-- one more place exceeds a limit of certificates: it would be point 65,537, or the entry of frame
-- 2,049
abbrev pub ExceedsPlaceLimits : List Spot → List Key → Spot → Type 0
ExceedsPlaceLimits ps ks (Point k p) = (length ps ≡ 2 ^ 16) ⊎ ((p ≡ k.entry) × (length ks ≡ 2048))
ExceedsPlaceLimits ps ks (Exit k) = ⊥

-- a refusal by K15 at a new place that passes a limit of certificates; nothing is said of NoMemory
abbrev pub IsLimitRefusal : Bool → List Spot → List Key → Spot → Refusal → Type 0
IsLimitRefusal known ps ks y (Fault rule x) = (rule ≡ 15) × (x ≡ y) × (known ≡ false) × ExceedsPlaceLimits ps ks y
IsLimitRefusal known ps ks y NoMemory = Unit {0}

-- the maker's points with one more place, if that place is a point
abbrev pub points_with : List Spot → Spot → List Spot
points_with ps (Point k p) = ps ++ Point k p ∷ []
points_with ps (Exit k) = ps

-- the maker's points after the place y is recorded: a point y is appended, unless known already
abbrev pub points_after_recording : Bool → List Spot → Spot → List Spot
points_after_recording known ps y = if known then ps else points_with ps y

-- the maker's frames after the place y is recorded: the frame of an entry point y is appended,
-- unless y is known already
abbrev pub frames_after_recording : Bool → List Key → Spot → List Key
frames_after_recording known ks y = if known then ks else frames_with_entry ks y
