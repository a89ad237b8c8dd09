-- What the definitions of this crate mean, in plain words.
use Rattle.std.specs.Prelude.{◌≡◌, ◌≤◌, ◌↔◌, ℕ, false, List, All, Contains}
use Rattle.csa_chain.specs.MemoryBytes.{word_at}
use Rattle.elf_image.specs.Images.{ImageData}
use Rattle.tcd_plan.specs.PlanData.{PlanData, IsPlan}
use Rattle.tc_machine.specs.declared.events.Event.{Event}
use Rattle.tc_machine.specs.declared.state.Machine.{Machine}
use Rattle.tc_machine.specs.Stepping.{run}
use Rattle.tcd_base.specs.Ranges.{IsInOneRange}
use Rattle.tc_machine.specs.Safe.{Fits, AllFit, IsSafeAt, Safe}
use Rattle.tc_machine.specs.Starting.{Starts}
use Rattle.value_cells.specs.declared.cells.Cell.{Cell}
use Rattle.value_cells.specs.Cells.{with_cells, is_in_cell, AreCells}
use Rattle.value_cells.specs.Safe.{SafeWithCells}
use Rattle.depth_cert.specs.Certs.{CertData, IsCert}
use Rattle.cfg_recover.specs.RulesHoldOrFail.{Accepts}
use Rattle.cfg_recover.specs.EdgeAndFrameLaws.{FramesHeld}
use Rattle.value_cells.specs.Keeping.{CertKeepsCellBounds, FailsRule16At}
use Rattle.depth_cert.specs.declared.keys.Key.{Key}

-- The ram of the plan with cells is all ram except the cells' bytes.
abbrev pub RamIsWithoutCells : Type 0
RamIsWithoutCells =
    (plan : PlanData) (cells : List Cell) (x : ℕ) → IsInOneRange x 1 (with_cells plan cells).ram ↔ (IsInOneRange x 1 plan.ram × (is_in_cell cells x ≡ false))

-- If an image is safe with cells, and each cell's word is in its bounds at the start, then in every
-- state of every run of fitting events each cell's word is in its bounds, and the state is safe.
abbrev pub EachCellStaysInBounds : Type 0
EachCellStaysInBounds =
    (image : ImageData) (plan : PlanData) (cells : List Cell) (most : ℕ) (m : Machine) (es : List Event) (e : Event) (c : Cell) → SafeWithCells image plan cells most
    → Starts image plan m → All (λ d. (d.lo ≤ word_at m.mem d.at) × (word_at m.mem d.at ≤ d.hi)) cells → AllFit plan m es → Fits plan (run m es) e → Contains cells c
    → IsSafeAt image plan most (run m es) e × (c.lo ≤ word_at (run m es).mem c.at) × (word_at (run m es).mem c.at ≤ c.hi)

-- if an accepted certificate keeps the cells, and its image is safe under the plan with cells, the
-- image is safe with cells under the plan itself
abbrev pub AcceptedIsSafeWithCells : Type 0
AcceptedIsSafeWithCells =
    (image : ImageData) (plan : PlanData) (cells : List Cell) (cert : CertData) (most : ℕ) → IsPlan plan → AreCells plan cells → IsCert cert
    → Accepts image (with_cells plan cells) cert → Safe image (with_cells plan cells) most → FramesHeld image (with_cells plan cells) cert
    → CertKeepsCellBounds image (with_cells plan cells) cells cert → SafeWithCells image plan cells most

-- the plan with cells is a plan
abbrev pub PlanWithCellsIsPlan : Type 0
PlanWithCellsIsPlan = (plan : PlanData) (cells : List Cell) → IsPlan plan → AreCells plan cells → IsPlan (with_cells plan cells)

-- If K16 fails somewhere, the certificate doesn't keep the cells.
abbrev pub CellFaultBreaksRule16 : Type 0
CellFaultBreaksRule16 =
    (image : ImageData) (plan : PlanData) (cells : List Cell) (cert : CertData) (k : Key) (p : ℕ) → FailsRule16At image plan cells cert k p
    → CertKeepsCellBounds image plan cells cert → ⊥
