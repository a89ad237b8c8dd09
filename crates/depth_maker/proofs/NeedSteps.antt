-- From rows to the needs of a table.
use Rattle.std.proofs.Common.{◌≡◌, ℕ, ◌-◌, ◌<◌, ◌≤◌, List, length, Option, Some, None, subst, sym}
use Rattle.std.specs.Prelude.{map, slice_index, Ok}
use Rattle.std.specs.declared.vec.Vec.{Vec}
use Rattle.std.specs.declared.alloc.Global.{Global}
use Rattle.depth_cert.specs.declared.keys.Key.{Key}
use Rattle.cfg_recover.specs.Entries.{start_key}
use Rattle.cfg_recover.specs.CertRefusals.{AreSufficientNeeds}
use Rattle.frame_places.specs.Numbers.{frame_number_in}
use Rattle.depth_maker.specs.WellFormedAssignments.{AllWellFormed}
use Rattle.frame_places.specs.RowNeeds.{AreRowsWithin, IsLeastNeedsResult}
use Rattle.depth_maker.specs.Rows.{HasFinishedTable, AreRowsOfTable}
use Rattle.depth_maker.specs.Needs.{AreLeastNeedsOrTooMany}
use Rattle.depth_maker.specs.Recursing.{IsFirstRecursion}
use Rattle.depth_maker.specs.SpotsAsPlaces.{place_of_spot}
use Rattle.depth_maker.specs.TableView.{view_of_table}
use Rattle.depth_maker.proofs.Lawful.{lawful}
use Rattle.depth_maker.proofs.NeedLaws.{no_recursion}
use Rattle.depth_maker.proofs.TableLaws.{derived_well_formed}
use Rattle.depth_maker.proofs.RowLaws.{above_by, least_by, rows_within}
use Rattle.frame_places.specs.declared.needs.row.NeedRow.{NeedRow}
use Rattle.depth_maker.specs.declared.rows.Source.{Source}

all_well_formed : (s : Source) → HasFinishedTable s → AllWellFormed (s.ground.now).bounds.now (view_of_table s.table.now).cells
all_well_formed s source = derived_well_formed _ _ _ (lawful _ _ _ (s.ground.now).sound) (view_of_table s.table.now).cells (source.done).derived

pub source_within : (s : Source) (frames : List Key) (rows : List NeedRow) → HasFinishedTable s → frames ≡ (s.table.now).frames.items → AreRowsOfTable s.ground.now s.table.now rows → AreRowsWithin rows (length frames)
unfolding view_of_table
source_within s frames rows source same are =
    subst (λ (l : List Key). AreRowsWithin rows (length l)) (sym same)
    (rows_within _ _ _ (view_of_table s.table.now).cells (source.done).closed (map place_of_spot (s.table.now).points.items) (s.table.now).frames.items ((source.done).counted).each rows are (all_well_formed s source) ((s.ground.now).sound).limits)

pub source_needs : (s : Source) (frames : List Key) (rows : List NeedRow) (cap : ℕ) → HasFinishedTable s → frames ≡ (s.table.now).frames.items → AreRowsOfTable s.ground.now s.table.now rows
    → cap ≡ ((s.ground.now).plan.now).areas - ((s.ground.now).plan.now).reserve → (o : Option (Vec ℕ Global)) → IsLeastNeedsResult (length frames) rows cap (Ok o) → AreLeastNeedsOrTooMany s o
unfolding view_of_table
source_needs s frames rows cap source same are is o h = at o (subst (λ (l : List Key). IsLeastNeedsResult (length l) rows cap (Ok o)) same h) where
  at : (p : Option (Vec ℕ Global)) → IsLeastNeedsResult (length (s.table.now).frames.items) rows cap (Ok p) → AreLeastNeedsOrTooMany s p
  at None none =
      subst (λ (n : ℕ). (need : Key → ℕ) → AreSufficientNeeds (s.ground.now).bounds.now (s.ground.now).image.now (s.ground.now).plan.now (view_of_table s.table.now).cells need → n < need (start_key (s.ground.now).image.now (s.ground.now).plan.now)) is
      (above_by _ _ _ (view_of_table s.table.now).cells (source.done).closed (map place_of_spot (s.table.now).points.items) (s.table.now).frames.items ((source.done).counted).each rows are (lawful _ _ _ (s.ground.now).sound)
      (source.done).derived (source.done).faultless (all_well_formed s source) cap none)
  at (Some needs) some = (
    least_by _ _ _ (view_of_table s.table.now).cells (source.done).closed (map place_of_spot (s.table.now).points.items) (s.table.now).frames.items ((source.done).counted).each rows are needs.items some.0 some.1 some.2,
    (λ k. subst (λ (n : ℕ). slice_index needs.items (frame_number_in (s.table.now).frames.items k) ≤ n) is (some.3 (frame_number_in (s.table.now).frames.items k))),
  )

-- if a frame is recursive, no needs are met
pub recursion_above : (s : Source) (x : Key × ℕ) → IsFirstRecursion s (Some x) → AreLeastNeedsOrTooMany s None
recursion_above s x first need m =
    absurd (no_recursion (s.ground.now).bounds.now (s.ground.now).image.now (s.ground.now).plan.now (view_of_table s.table.now).cells need m x.0 x.1 first.recurs)
