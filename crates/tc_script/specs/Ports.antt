-- The answers of peripherals.
use Rattle.std.specs.Prelude.{ℕ, Bool, ◌^◌, ◌<◌, ◌≤◌, List, Option, option_map, slice_get, All, if◌then◌else◌, ◌∷◌, ◌+◌, ◌-◌, ◌%◌, []}
use Rattle.std.specs.List.{list_any}
use Rattle.tcd_plan.specs.declared.plans.Device.{Device}
use Rattle.tcd_base.specs.Ranges.{IsWithinRange, is_within_range}
use Rattle.tc_script.specs.declared.scripts.AnswerRange.{AnswerRange}

-- ports: the peripherals of a plan, and the closure that answers for them
pub record PortsData (F : Type 0) : Type 0 where
  pub devices : List Device
  pub answer : F

-- the closure of ports accepts each address of each peripheral with each number of an event
abbrev pub AcceptsDeviceAddresses : (ℕ → ℕ → Type 0) → List Device → Type 0
AcceptsDeviceAddresses can devices = All (λ d. (addr t : ℕ) → IsWithinRange addr 1 d.range → t < 2 ^ 32 → can addr t) devices

-- each word that the closure of ports answers for an address of a peripheral is within the
-- peripheral's bounds
abbrev pub AnswersWithinDeviceBounds : (ℕ → ℕ → ℕ → Type 0) → List Device → Type 0
AnswersWithinDeviceBounds gives devices =
    All (λ d. (addr t w : ℕ) → IsWithinRange addr 1 d.range → t < 2 ^ 32 → w < 2 ^ 32 → gives addr t w → (d.lo ≤ w) × (w ≤ d.hi)) devices

-- the bounds of the answers of a peripheral's port until a line of the script states others: its
-- `lo` alone
abbrev pub initial_answer_bounds : Device → AnswerRange
initial_answer_bounds d = record { lo = d.lo; hi = d.lo }

-- the test of IsInDevice: the n addresses from x on are wholly inside one peripheral range
abbrev pub is_in_device : ℕ → ℕ → List Device → Bool
is_in_device x n devices = list_any (λ d. is_within_range x n d.range) devices

-- the answer of a peripheral at an event, numbered from 0: the words within its bounds, from lo to
-- hi, in turn and over again
abbrev pub device_answer : AnswerRange → ℕ → ℕ
device_answer b t = b.lo + t % (b.hi - b.lo + 1)

-- the answer of a script with these bounds for a peripheral at an event, both numbered from 0; None
-- if there are no bounds for the peripheral
abbrev pub script_answer : List AnswerRange → ℕ → ℕ → Option ℕ
script_answer bounds device t = option_map (λ b. device_answer b t) (slice_get bounds device)

-- the answer of the port at an address at an event: that of the peripheral there within its bounds,
-- or 0 if no peripheral is there
abbrev pub device_answer_at : List Device → List AnswerRange → ℕ → ℕ → ℕ
device_answer_at [] bounds x t = 0
device_answer_at (d ∷ ds) [] x t = 0
device_answer_at (d ∷ ds) (b ∷ bs) x t = if is_within_range x 1 d.range then device_answer b t else device_answer_at ds bs x t
