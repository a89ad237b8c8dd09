-- A table with a work list, seen as an assignment, marks, and readers of exits.
use Rattle.std.specs.Prelude.{Bool}
use Rattle.cfg_recover.specs.Assignments.{Place, Assignment}
use Rattle.indexmap.specs.IndexMap.{get}
use Rattle.frame_places.specs.Spots.{spot_eq}
use Rattle.depth_maker.specs.SpotsAsPlaces.{spot_of}
use Rattle.frame_places.specs.Marks.{is_idle, is_queued, mark_of_place, value_of_place, IsAmongReaders}
use Rattle.depth_maker.specs.declared.table.Table as made

-- what is known; the points whose duties are all covered; the queued places; which points read
-- which exits
pub record TableView : Type 1 where
  pub cells : Assignment
  pub idle : Place → Bool
  pub queued : Place → Bool
  pub reads : Place → Place → Type 0

-- the maker's table as an assignment, with the marks of places and the readers of exits
unfoldable pub view_of_table : made.Table → TableView
view_of_table t = record {
  cells = λ q. value_of_place t.places (spot_of q);
  idle = λ q. is_idle (mark_of_place t.places (spot_of q));
  queued = λ q. is_queued (mark_of_place t.places (spot_of q));
  reads = λ z x. IsAmongReaders (get spot_eq t.readers (spot_of z)) (spot_of x);
}
