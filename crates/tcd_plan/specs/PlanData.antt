-- Plans as plain data, and what holds of every plan.
use Rattle.std.specs.Prelude.{◌≡◌, ◌≤◌, ◌<◌, ◌+◌, ◌*◌, ◌/◌, ◌%◌, ◌^◌, ℕ, List, ◌∷◌, ◌++◌, length, map, sum_by, Bool, true, IsTrue, nat_le, nat_lt, ◌&&◌, ◌||◌, ◌==◌, if◌then◌else◌, slice_index, not, Option, Some, None, position, []}
use Rattle.std.specs.List.{list_all, list_any}
use Rattle.std.specs.List.Sorted.{IsStrictlyIncreasing}
use Rattle.tcd_base.specs.declared.range.Range.{Range}
use Rattle.tcd_base.specs.declared.core_version.Core.{Core}
use Rattle.tcd_plan.specs.declared.plans.Device.{Device}
use Rattle.tcd_plan.specs.declared.plans.Plan.TheInside.{Inside}
use Rattle.tcd_plan.specs.KeyFaults.{plan_key_of}
use Rattle.tcd_plan.specs.declared.plans.PlanKey.{PlanKey}
use Rattle.std.specs.Option.{option_map_or, option_or}
use Rattle.tcd_plan.specs.declared.plans.PlanErr.{PlanErr}
use Rattle.tcd_plan.specs.declared.plans.PlanErr.TheVariants.{Overlap}

-- a plan: rom, ram and peripherals (devices), the save areas from csa_at on, of which the last
-- `reserve` must never be used, the start state, the interrupts' priorities, whether system calls
-- can occur (sys), and whether misaligned accesses can trap (aln)
pub record PlanData : Type 0 where
  pub rom : List Range
  pub ram : List Range
  pub devices : List Device
  pub csa_at : ℕ
  pub areas : ℕ
  pub reserve : ℕ
  pub sp : ℕ
  pub isp : ℕ
  pub biv : ℕ
  pub btv : ℕ
  pub irqs : List ℕ
  pub sys : Bool
  pub aln : Bool
  pub start_ie : Bool
  pub start_ccpn : ℕ
  pub start_is : Bool
  pub globals : List ℕ
  pub core : Core

-- the plain data of a plan, by the fields that the plan has in the code
abbrev pub plan_data : Inside → PlanData
plan_data p = record {
  rom = p.rom.items;
  ram = p.ram.items;
  devices = p.devices.items;
  csa_at = p.csa_at;
  areas = p.areas;
  reserve = p.reserve;
  sp = p.sp;
  isp = p.isp;
  biv = p.biv;
  btv = p.btv;
  irqs = p.irqs.items;
  sys = p.sys;
  aln = p.aln;
  start_ie = p.start_ie;
  start_ccpn = p.start_ccpn;
  start_is = p.start_is;
  globals = p.globals;
  core = p.core;
}

-- what holds of each rom, ram or peripheral range in every plan's data: whole words, at least one,
-- and an end at 2^32 or below
abbrev pub is_plan_range : Range → Bool
is_plan_range r = (r.at % 4 == 0) && (r.len % 4 == 0) && nat_lt 0 r.len && nat_le (r.at + r.len) (2 ^ 32)

-- what holds of each peripheral in every plan's data: its range is valid, and the bounds of the
-- words that it answers are in order and below 2^32
abbrev pub is_plan_device : Device → Bool
is_plan_device d = is_plan_range d.range && nat_le d.lo d.hi && nat_lt d.hi (2 ^ 32)

-- in a plan's data, the save areas of 64 bytes each, as one range beside rom, ram and peripherals
abbrev pub areas_range : PlanData → Range
areas_range p = record { at = p.csa_at; len = 64 * p.areas }

-- all ranges in a plan's data as one list, in the order in which overlaps number them: rom, ram,
-- peripherals, save areas
abbrev pub all_ranges : PlanData → List Range
all_ranges p = p.rom ++ p.ram ++ map (λ d. d.range) p.devices ++ areas_range p ∷ []

-- what holds of every two ranges in a plan's data: they share no byte
abbrev pub are_ranges_disjoint : Range → Range → Bool
are_ranges_disjoint r s = nat_le (r.at + r.len) s.at || nat_le (s.at + s.len) r.at

-- what holds of every plan's ranges: no two of them share a byte
abbrev pub are_all_ranges_disjoint : List Range → Bool
are_all_ranges_disjoint [] = true
are_all_ranges_disjoint (r ∷ rs) = list_all (are_ranges_disjoint r) rs && are_all_ranges_disjoint rs

-- what holds of every plan's rom, ram and peripherals: how many they are, how large, and that each
-- is a range
pub record ArePlanRanges (p : PlanData) : Type 0 where
  pub some : 1 ≤ length p.rom
  pub few_rom : length p.rom ≤ 16
  pub few_ram : length p.ram ≤ 16
  pub few_devices : length p.devices ≤ 16
  pub rom : IsTrue (list_all is_plan_range p.rom)
  pub ram : IsTrue (list_all is_plan_range p.ram)
  pub devices : IsTrue (list_all is_plan_device p.devices)
  pub small_rom : sum_by (λ r. r.len) p.rom ≤ 2 ^ 22
  pub small_ram : sum_by (λ r. r.len) p.ram ≤ 2 ^ 22

-- the limits of the save areas in every plan's data: 1 to 4096 at a multiple of 64, in a segment of
-- 2^22 bytes, first link not 0, 1 or more of them in reserve
pub record ArePlanAreas (p : PlanData) : Type 0 where
  pub some : 1 ≤ p.areas
  pub few : p.areas ≤ 4096
  pub reserved : 1 ≤ p.reserve
  pub reserve_within : p.reserve ≤ p.areas
  pub word : p.csa_at < 2 ^ 32
  pub not_zero : 0 < p.csa_at
  pub aligned : p.csa_at % 64 ≡ 0
  pub in_segment : p.csa_at / 2 ^ 22 % 2 ^ 6 ≡ 0
  pub fit : p.csa_at % 2 ^ 22 + 64 * p.areas ≤ 2 ^ 22

-- what holds of every plan's words of the start state: SP, ISP, BIV, BTV, CCPN and the four globals
pub record ArePlanWords (p : PlanData) : Type 0 where
  pub sp : p.sp < 2 ^ 32
  pub isp : p.isp < 2 ^ 32
  pub biv : p.biv < 2 ^ 32
  pub btv : p.btv < 2 ^ 32
  pub even_biv : p.biv % 2 ≡ 0
  pub even_btv : p.btv % 2 ≡ 0
  pub ccpn : p.start_ccpn < 2 ^ 8
  pub four : length p.globals ≡ 4
  pub globals : IsTrue (list_all (λ w. nat_lt w (2 ^ 32)) p.globals)

-- what holds of every plan's interrupts: at most 32, ascending, from 1 to 255
pub record ArePlanIrqs (irqs : List ℕ) : Type 0 where
  pub few : length irqs ≤ 32
  pub rising : IsStrictlyIncreasing irqs
  pub each : IsTrue (list_all (λ q. nat_lt 0 q && nat_lt q (2 ^ 8)) irqs)

-- what holds of every plan as plain data: its ranges, save areas, start words and interrupts are
-- within their limits, and no two of its ranges share a byte
pub record IsPlan (p : PlanData) : Type 0 where
  pub ranges : ArePlanRanges p
  pub areas : ArePlanAreas p
  pub words : ArePlanWords p
  pub irqs : ArePlanIrqs p.irqs
  pub apart : IsTrue (are_all_ranges_disjoint (all_ranges p))

-- the interrupt is one of those in a plan's data
abbrev pub is_plan_irq : PlanData → ℕ → Bool
is_plan_irq plan irq = list_any (λ q. q == irq) plan.irqs

-- the word that a plan's data has for A0, A1, A8 or A9 at the start: register 16, 17, 24 or 25
abbrev pub global_of : PlanData → ℕ → ℕ
global_of p r = slice_index p.globals (if r == 16 then 0 else if r == 17 then 1 else if r == 24 then 2 else 3)

-- what holds of every plan's rom and ram: at most 16 ranges, with at most 2^22 bytes together
abbrev pub are_ranges_within_limits : List Range → Bool
are_ranges_within_limits rs = nat_le (length rs) 16 && nat_le (sum_by (λ r. r.len) rs) (2 ^ 22)

-- the first value in a list of options, such as the first of several refusals that applies
abbrev pub first_some : {T : Type 0} → List (Option T) → Option T
first_some [] = None
first_some (o ∷ os) = option_or o (first_some os)

-- the key with this number, of an array in a plan's data, unless the array is within its limits
abbrev pub key_unless : Bool → ℕ → Option PlanKey
key_unless few key = if few then None else Some (plan_key_of key)

-- for each array in a plan's data: its key if the array has too many elements, or too many bytes in
-- its ranges, else None
abbrev pub keys_over_limit : PlanData → List (Option PlanKey)
keys_over_limit p =
    key_unless (are_ranges_within_limits p.rom) 1 ∷
    key_unless (are_ranges_within_limits p.ram) 4 ∷
    key_unless (nat_le (length p.devices) 16) 7 ∷
    key_unless (nat_le (length p.irqs) 32) 20 ∷
    []

-- the key of the first array in a plan's data with too many elements, or with too many bytes in its
-- ranges
unfoldable pub first_oversized_array : PlanData → Option PlanKey
first_oversized_array p = first_some (keys_over_limit p)

-- what holds of every plan's save areas: 1 to 4096 from `at` on in a segment of 2^22 bytes, first
-- link not 0, 1 or more in reserve (TriCore 1 Architecture Manual V1.3, volume 1, contexts)
abbrev pub are_valid_areas : ℕ → ℕ → ℕ → Bool
are_valid_areas at areas reserve = nat_le 1 areas && nat_le areas 4096 && nat_le 1 reserve && nat_le reserve areas && (at % 64 == 0) && (at / 2 ^ 22 % 2 ^ 6 == 0) && nat_lt 0 at && nat_le (at % 2 ^ 22 + 64 * areas) (2 ^ 22)

-- what holds of every plan's data: the save areas are within their limits
unfoldable pub has_valid_areas : PlanData → Bool
has_valid_areas p = are_valid_areas p.csa_at p.areas p.reserve

-- what holds of every plan's data: BIV and BTV are even (manual, volume 1, interrupts and traps)
unfoldable pub has_even_vector_bases : PlanData → Bool
has_even_vector_bases p = (p.biv % 2 == 0) && (p.btv % 2 == 0)

-- the first pair in a list of a plan's ranges that shares a byte; the ranges are numbered from i on
abbrev pub first_overlap_from : ℕ → List Range → Option PlanErr
first_overlap_from i [] = None
first_overlap_from i (r ∷ rs) = option_map_or (λ k. Some (Overlap i (i + 1 + k))) (position (λ s. not (are_ranges_disjoint r s)) rs) (first_overlap_from (i + 1) rs)

-- the refusal of a plan's data if two of its ranges overlap: the numbers of the first pair that
-- shares a byte
unfoldable pub plan_range_overlap : PlanData → Option PlanErr
plan_range_overlap p = first_overlap_from 0 (all_ranges p)
