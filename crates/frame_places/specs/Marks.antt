-- Which places have work, and which read which exits.
use Rattle.std.specs.Prelude.{◌≡◌, ◌⊎◌, ℕ, Option, Some, None, IsSome, List, Contains, Bool, true, false, if◌then◌else◌}
use Rattle.std.specs.declared.vec.Vec.{Vec}
use Rattle.std.specs.declared.alloc.Global.{Global}
use Rattle.std.specs.Option.{option_map}
use Rattle.indexmap.specs.IndexMap.{IndexMap, get}
use Rattle.frame_places.specs.declared.places.Spot.{Spot}
use Rattle.frame_places.specs.declared.places.Mark.{Mark}
use Rattle.frame_places.specs.declared.places.Marked.{Marked}
use Rattle.frame_places.specs.declared.places.Mark.TheVariants.{Idle, Plain, Queued, Open}
use Rattle.frame_places.specs.Numbers.{PlaceHasNumber, KeepsPlaceNumbers}
use Rattle.frame_places.specs.Spots.{spot_eq}
use Rattle.frame_places.specs.Work.{WorkLists, all_work}

-- the value that a map of places has for a place, or none if the place is unknown
abbrev pub value_of_place : {V S : Type 0} → IndexMap Spot (Marked V) S → Spot → Option V
value_of_place places q = option_map (λ m. m.value) (get spot_eq places q)

-- the mark that a map of places has for a place, or none if the place is unknown
abbrev pub mark_of_place : {V S : Type 0} → IndexMap Spot (Marked V) S → Spot → Option Mark
mark_of_place places q = option_map (λ m. m.mark) (get spot_eq places q)

-- each of these places is in the map of places, with a value and a mark
abbrev pub AreKnownPlaces : {V S : Type 0} → IndexMap Spot (Marked V) S → (Spot → Type 0) → Type 0
AreKnownPlaces places these = (q : Spot) → these q → IsSome (value_of_place places q)

-- the marks of places agree with the work: each place marked as queued is listed by its number, and
-- each number that is listed is a place's
pub record AreQueuedPlacesListed {V S : Type 0} (places : IndexMap Spot (Marked V) S) (work : List ℕ) : Type 0 where
  pub listed : (q : Spot) → mark_of_place places q ≡ Some Queued → (number : ℕ) × Contains work number × PlaceHasNumber places number q
  pub known : (number : ℕ) → Contains work number → (q : Spot) × PlaceHasNumber places number q

-- the place x gets this mark in the map of places; no other mark, no value and no number changes
pub record MarksPlaceAs {V S : Type 0} (old new : IndexMap Spot (Marked V) S) (x : Spot) (mark : Mark) : Type 0 where
  pub values : (q : Spot) → value_of_place new q ≡ value_of_place old q
  pub marks : (q : Spot) → mark_of_place new q ≡ (if spot_eq x q then Some mark else mark_of_place old q)
  pub numbers : KeepsPlaceNumbers old new

-- the place y gets this value in the map of places and is queued; nothing else changes
pub record SetsAndQueuesPlace {V S : Type 0} (old new : IndexMap Spot (Marked V) S) (y : Spot) (value : V) : Type 0 where
  pub values : (q : Spot) → value_of_place new q ≡ (if spot_eq y q then Some value else value_of_place old q)
  pub marks : (q : Spot) → mark_of_place new q ≡ (if spot_eq y q then Some Queued else mark_of_place old q)
  pub numbers : KeepsPlaceNumbers old new

-- y was unknown, and now has this value and is marked as queued; or it has this number already, and
-- nothing changes
abbrev pub AddsOrFindsPlace : {V S : Type 0} → IndexMap Spot (Marked V) S → IndexMap Spot (Marked V) S → WorkLists → WorkLists → Spot → V → Option ℕ → Type 0
AddsOrFindsPlace old new before after y value None = (value_of_place old y ≡ None) × SetsAndQueuesPlace old new y value × AreQueuedPlacesListed new (all_work after)
AddsOrFindsPlace old new before after y value (Some number) = PlaceHasNumber old number y × (new.entries ≡ old.entries) × (after ≡ before)

-- these places are queued now in the map of places, and nothing else changes
pub record RequeuesPlaces {V S : Type 0} (old new : IndexMap Spot (Marked V) S) (these : Spot → Type 0) : Type 0 where
  pub values : (q : Spot) → value_of_place new q ≡ value_of_place old q
  pub marks : (q : Spot) → ((mark_of_place new q ≡ Some Queued) × these q) ⊎ ((mark_of_place new q ≡ mark_of_place old q) × (these q → ⊥))
  pub numbers : KeepsPlaceNumbers old new

-- this is the mark of a place without work: idle or plain
abbrev pub is_idle : Option Mark → Bool
is_idle None = false
is_idle (Some Idle) = true
is_idle (Some Plain) = true
is_idle (Some Queued) = false
is_idle (Some Open) = false

-- this is the mark of a queued place
abbrev pub is_queued : Option Mark → Bool
is_queued None = false
is_queued (Some Idle) = false
is_queued (Some Plain) = false
is_queued (Some Queued) = true
is_queued (Some Open) = false

-- the mark of a place that has no work: plain or idle
abbrev pub mark_without_work : Bool → Mark
mark_without_work plain = if plain then Plain else Idle

-- the mark of a place after a visit; a place that was queued during the visit stays queued
abbrev pub mark_at_visit_end : Bool → Option Mark → Mark
mark_at_visit_end plain o = if is_queued o then Queued else mark_without_work plain

-- a place is among the readers of an exit, which are marked as queued when the exit rises
abbrev pub IsAmongReaders : Option (Vec Spot Global) → Spot → Type 0
IsAmongReaders None x = ⊥
IsAmongReaders (Some ps) x = Contains ps.items x

-- the place x is now a reader of the exit z, so that it is marked as queued when z rises; no reader
-- of an exit is lost, and no other is added
pub record AddsReader {R : Type 0} (old new : IndexMap Spot (Vec Spot Global) R) (z x : Spot) : Type 0 where
  pub kept : (p q : Spot) → IsAmongReaders (get spot_eq old p) q → IsAmongReaders (get spot_eq new p) q
  pub there : IsAmongReaders (get spot_eq new z) x
  pub alone : (p q : Spot) → IsAmongReaders (get spot_eq new p) q → IsAmongReaders (get spot_eq old p) q ⊎ ((spot_eq z p ≡ true) × (q ≡ x))

-- no place reads the exit y any more, and each other exit has its readers as before
pub record ForgetsReaders {R : Type 0} (old new : IndexMap Spot (Vec Spot Global) R) (y : Spot) : Type 0 where
  pub gone : (q : Spot) → IsAmongReaders (get spot_eq new y) q → ⊥
  pub others : (p : Spot) → spot_eq y p ≡ false → get spot_eq new p ≡ get spot_eq old p
