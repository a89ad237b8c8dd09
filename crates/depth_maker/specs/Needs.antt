-- The least needs of a closed table, by the types of the code.
use Rattle.std.specs.Prelude.{◌-◌, ◌<◌, ◌≤◌, ℕ, Option, Some, None, Result, Ok, Err, List, slice_index}
use Rattle.std.specs.declared.vec.Vec.{Vec}
use Rattle.std.specs.declared.alloc.Global.{Global}
use Rattle.depth_cert.specs.declared.keys.Key.{Key}
use Rattle.cfg_recover.specs.Entries.{start_key}
use Rattle.cfg_recover.specs.CertRefusals.{AreSufficientNeeds}
use Rattle.depth_maker.specs.LeastCertMade.{AreLeastNeeds}
use Rattle.depth_maker.specs.Recursing.{IsFirstRecursion}
use Rattle.depth_maker.specs.TableView.{view_of_table}
use Rattle.depth_maker.specs.declared.rows.Source.{Source}
use Rattle.frame_places.specs.Numbers.{frame_number_in}

-- the need of a frame, from a list of needs by the numbers of frames
abbrev pub need_of_frame : List Key → List ℕ → Key → ℕ
need_of_frame frames needs k = slice_index needs (frame_number_in frames k)

-- the start needs more areas than the plan has without the reserve, by any needs of frames that
-- suffice for the table's points
abbrev pub StartNeedsTooManyAreas : Source → Type 0
StartNeedsTooManyAreas s =
    (need : Key → ℕ) → AreSufficientNeeds (s.ground.now).bounds.now (s.ground.now).image.now (s.ground.now).plan.now (view_of_table s.table.now).cells need
    → ((s.ground.now).plan.now).areas - ((s.ground.now).plan.now).reserve < need (start_key (s.ground.now).image.now (s.ground.now).plan.now)

-- the least needs of the table's frames, none above the areas without the reserve; or none, and the
-- start's is above these
abbrev pub AreLeastNeedsOrTooMany : Source → Option (Vec ℕ Global) → Type 0
AreLeastNeedsOrTooMany s (Some needs) =
    AreLeastNeeds (s.ground.now).bounds.now (s.ground.now).image.now (s.ground.now).plan.now (view_of_table s.table.now).cells (need_of_frame (s.table.now).frames.items needs.items)
    × ((k : Key) → need_of_frame (s.table.now).frames.items needs.items k ≤ ((s.ground.now).plan.now).areas - ((s.ground.now).plan.now).reserve)
AreLeastNeedsOrTooMany s None = StartNeedsTooManyAreas s

-- the least needs of the table's frames; or the start's is above the areas without the reserve,
-- with the first recursion, if any
abbrev pub IsLeastNeedsOrRecursion : Source → Result (Vec ℕ Global) (Option (Key × ℕ)) → Type 0
IsLeastNeedsOrRecursion s (Ok needs) = AreLeastNeedsOrTooMany s (Some needs)
IsLeastNeedsOrRecursion s (Err place) = StartNeedsTooManyAreas s × IsFirstRecursion s place

-- these are the least needs of the frames of the maker's table, by numbers, and none is above the
-- areas without the reserve
pub record AreLeastTableNeeds (s : Source) (needs : List ℕ) : Type 0 where
  pub least : AreLeastNeeds (s.ground.now).bounds.now (s.ground.now).image.now (s.ground.now).plan.now (view_of_table s.table.now).cells (need_of_frame (s.table.now).frames.items needs)
  pub few : (k : Key) → need_of_frame (s.table.now).frames.items needs k ≤ ((s.ground.now).plan.now).areas - ((s.ground.now).plan.now).reserve
