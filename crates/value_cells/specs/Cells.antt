-- Cells, and the plan in which they are peripherals. The rules of certificates know peripherals but
-- no memory; so they can speak of words of ram.
use Rattle.std.specs.Prelude.{◌≡◌, ◌≢◌, ◌<◌, ◌≤◌, ◌+◌, ◌%◌, ◌^◌, ◌&&◌, ◌||◌, ℕ, Bool, false, nat_lt, nat_le, List, ◌∷◌, ◌++◌, length, map, take, All, AllPairs, []}
use Rattle.tcd_base.specs.declared.range.Range.{Range}
use Rattle.tcd_plan.specs.declared.plans.Device.{Device}
use Rattle.tcd_plan.specs.PlanData.{PlanData}
use Rattle.tcd_plan.specs.Cutting.{ranges_outside}
use Rattle.tcd_base.specs.Ranges.{IsInOneRange}
use Rattle.value_cells.specs.declared.cells.Cell.{Cell}

-- ---- the plan
-- the ranges without the words of all cells: each range is replaced by its parts that are left
abbrev pub ram_without_cells : List Cell → List Range → List Range
ram_without_cells [] rs = rs
ram_without_cells (c ∷ cs) rs = ram_without_cells cs (ranges_outside c.at 4 rs)

-- a cell as a peripheral of the plan: it answers inside the cell's bounds
abbrev pub cell_device : Cell → Device
cell_device c = record { range = record { at = c.at; len = 4 }; lo = c.lo; hi = c.hi }

-- the plan with these cells as peripherals: their words aren't ram, and they are the last
-- peripherals, in their order
abbrev pub with_cells : PlanData → List Cell → PlanData
with_cells plan cells = record plan { ram = ram_without_cells cells plan.ram; devices = plan.devices ++ map cell_device cells }

-- a cell: an aligned word in one ram range of the plan, its bounds in order
pub record IsCell (plan : PlanData) (c : Cell) : Type 0 where
  pub aligned : c.at % 4 ≡ 0
  pub ordered : c.lo ≤ c.hi
  pub word : c.hi < 2 ^ 32
  pub in_ram : IsInOneRange c.at 4 plan.ram

-- Cells of a plan: each is one, and no word is named twice. The first n of them, for each n, leave
-- at most 16 ram ranges and 16 peripherals, which are a plan's limits.
pub record AreCells (plan : PlanData) (cells : List Cell) : Type 0 where
  pub each : All (IsCell plan) cells
  pub once : AllPairs (λ c d. d.at ≢ c.at) cells
  pub few_ram : (n : ℕ) → n ≤ length cells → length (with_cells plan (take n cells)).ram ≤ 16
  pub few_devices : (n : ℕ) → n ≤ length cells → length (with_cells plan (take n cells)).devices ≤ 16

-- the four bytes of each cell are below 2 ^ 32, so that none wraps around the last address
abbrev pub CellsDoNotWrap : List Cell → Type 0
CellsDoNotWrap cells = All (λ c. c.at + 4 ≤ 2 ^ 32) cells

-- ---- the words
-- the address is one of a cell's four
abbrev pub is_in_cell : List Cell → ℕ → Bool
is_in_cell [] x = false
is_in_cell (c ∷ cs) x = (nat_le c.at x && nat_lt x (c.at + 4)) || is_in_cell cs x
