-- The level of a table: each join that changes the table raises it, and there is a greatest level.
use Rattle.std.specs.Prelude.{◌≡◌, ◌+◌, ◌-◌, ◌<◌, ◌⊎◌, ℕ, not, List, length, Option, Some, None}
use Rattle.std.specs.List.{count_by, sum_by}
use Rattle.value_domain.specs.declared.values.Val.{Val}
use Rattle.value_domain.specs.Values.{members}
use Rattle.depth_cert.specs.Keys.{cert_flag_byte}
use Rattle.depth_cert.specs.Known.{Known, state, leaving}
use Rattle.frame_places.specs.declared.places.Spot.TheVariants as spots
use Rattle.depth_maker.specs.declared.table.Table as made
use Rattle.frame_places.specs.Marks.{value_of_place}
use Rattle.frame_places.specs.Work.{all_work}

-- the level of values: the number of all their members
abbrev pub level_of_values : List Val → ℕ
level_of_values vs = sum_by (λ v. length (members v)) vs

-- the level of a state or an exit; what covers it has no lower level
abbrev pub level_of_known : Known → ℕ
level_of_known (state s) = level_of_values s.regs + cert_flag_byte s.ie + (256 - s.ccpn) + cert_flag_byte (not s.lower) + count_by not s.locals.items
level_of_known (leaving x) = level_of_values x.lower + cert_flag_byte x.ie + (256 - x.ccpn)

-- the level of a place; 0 if it is unknown
abbrev pub level_of_place : Option Known → ℕ
level_of_place None = 0
level_of_place (Some v) = 1 + level_of_known v

-- the level of the maker's table, which bounds its visits: the sum of the levels of all known
-- points and exits
unfoldable pub level_of_table : made.Table → ℕ
level_of_table t = sum_by (λ q. level_of_place (value_of_place t.places q)) t.points.items + sum_by (λ k. level_of_place (value_of_place t.places (spots.Exit k))) t.frames.items

-- the level of the maker's table rose, or level and work list are unchanged
abbrev pub LevelRisesOrStays : made.Table → made.Table → Type 0
LevelRisesOrStays s t = (level_of_table s < level_of_table t) ⊎ ((level_of_table t ≡ level_of_table s) × (all_work t.work ≡ all_work s.work))

-- the level of the maker's table rose, or the work list is shorter by one place
abbrev pub LevelRisesOrWorkShrinks : made.Table → made.Table → Type 0
LevelRisesOrWorkShrinks s t = (level_of_table s < level_of_table t) ⊎ ((level_of_table t ≡ level_of_table s) × (length (all_work s.work) ≡ length (all_work t.work) + 1))
