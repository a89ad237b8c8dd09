-- Start states: how their memory is filled, and which states a run may start in.
use Rattle.std.specs.Prelude.{◌≡◌, ℕ, zero, suc, ◌+◌, ◌*◌, ◌^◌, ◌<◌, ◌≤◌, ◌⊎◌, Bool, true, nat_lt, if◌then◌else◌, List, ◌∷◌, ◌++◌, slice_index, Option, Some, None, ◌-◌, ◌/◌, ◌%◌, []}
use Rattle.std.specs.FinMap as map
use Rattle.csa_chain.specs.MemoryBytes.{Memory, is_mapped, with_byte, with_words, HasOnlyBytes}
use Rattle.csa_chain.specs.Chain.{area_word, link_at}
use Rattle.elf_image.specs.Images.{ImageData, SegmentData, byte_in_segments, image_byte}
use Rattle.tcd_base.specs.declared.range.Range.{Range}
use Rattle.tcd_plan.specs.PlanData.{PlanData}
use Rattle.tc_mem.specs.PlanMemory.{IsMemoryOfZeros, HoldsRom, IsPlanMemory}
use Rattle.tc_machine.specs.declared.state.Machine.{Machine}
use Rattle.tcd_base.specs.Ranges.{IsInOneRange}
use Rattle.tc_machine.specs.PlanAreas.{first_link}
use Rattle.tc_machine.specs.declared.events.End.TheVariants.{Running}
use Rattle.tc_machine.specs.Machine.{is_interrupt_stack_used, IsMachine}

-- ---- the memory is filled
-- the memory with a byte of the image at address x, if the image has one there
abbrev pub with_image_byte : Memory → ℕ → Option ℕ → Memory
with_image_byte m x (Some b) = with_byte m x b
with_image_byte m x None = m

-- the memory with the image's bytes in the n bytes from x on
unfoldable pub with_image_in_range : ImageData → Memory → ℕ → ℕ → Memory
with_image_in_range image m x zero = m
with_image_in_range image m x (suc n) = with_image_byte (with_image_in_range image m x n) (x + n) (image_byte image (x + n))

-- the memory with the image's bytes in all of these ranges
abbrev pub with_image_in_ranges : ImageData → Memory → List Range → Memory
with_image_in_ranges image m [] = m
with_image_in_ranges image m (r ∷ rs) = with_image_in_ranges image (with_image_in_range image m r.at r.len) rs

-- The memory after the copy of segments' bytes into a range. Each mapped byte of the range that a
-- segment holds is the segment's. All else is as it was, and no byte is mapped or unmapped.
pub record AreSegmentsCopied (segments : List SegmentData) (r : Range) (m new : Memory) : Type 0 where
  pub mapped : (q : ℕ) → is_mapped new q ≡ is_mapped m q
  pub held : (q b : ℕ) → r.at ≤ q → q < r.at + r.len → is_mapped m q ≡ true → byte_in_segments segments q ≡ Some b → map.get new q ≡ Some b
  pub outside : (q : ℕ) → (q < r.at) ⊎ (r.at + r.len ≤ q) → map.get new q ≡ map.get m q
  pub none : (q : ℕ) → byte_in_segments segments q ≡ None → map.get new q ≡ map.get m q

-- in the memory that a machine starts with, the link to write into area i of n: that of the area
-- after it, 0 in the last one
abbrev pub next_start_link : ℕ → ℕ → ℕ → ℕ
next_start_link first n i = if nat_lt (i + 1) n then first + (i + 1) else 0

-- the memory with links written into the first k of n areas, from the address `at` on
unfoldable pub with_area_links : ℕ → ℕ → ℕ → Memory → ℕ → Memory
with_area_links at first n m zero = m
with_area_links at first n m (suc k) = with_words (with_area_links at first n m k) (at + 64 * k) (next_start_link first n k ∷ [])

-- the mapped ranges of the memory that a machine starts with: rom, ram, and n save areas from an
-- address on
abbrev pub start_memory_ranges : List Range → List Range → ℕ → ℕ → List Range
start_memory_ranges rom ram at n = rom ++ ram ++ record { at = at; len = 64 * n } ∷ []

-- the memory of a start state: zeros in the mapped ranges, the image's bytes in rom, and in each
-- save area the link of the next one
pub record IsFilledStartMemory (image : ImageData) (rom ram : List Range) (at n : ℕ) (mem : Memory) : Type 0 where
  pub zeros : Memory
  pub are_zeros : IsMemoryOfZeros (start_memory_ranges rom ram at n) zeros
  pub bytes : HasOnlyBytes (with_image_in_ranges image zeros rom)
  pub is : mem ≡ with_area_links at (link_at at) n (with_image_in_ranges image zeros rom) n

-- ---- the start
-- A0 to A15 at the start: the globals, the stack pointer, and 0 in the others
abbrev pub a_at_start : PlanData → List ℕ
a_at_start plan =
    slice_index plan.globals 0 ∷ slice_index plan.globals 1 ∷ 0 ∷ 0 ∷ 0 ∷ 0 ∷ 0 ∷ 0
    ∷ slice_index plan.globals 2 ∷ slice_index plan.globals 3 ∷ plan.sp ∷ 0 ∷ 0 ∷ 0 ∷ 0 ∷ 0 ∷ []

-- PSW at the start: IO (bits 11:10) is 2, IS (bit 9) is the plan's, the other bits are 0
abbrev pub psw_at_start : Bool → ℕ
psw_at_start is = if is then 2 * 2 ^ 10 + 2 ^ 9 else 2 * 2 ^ 10

-- in a start state, word 0 of each area is the link of the next one, and 0 in the last
abbrev pub AreAreasLinked : PlanData → Memory → Type 0
AreAreasLinked plan mem =
    (i : ℕ) → i < plan.areas → area_word mem (first_link plan + i) 0 ≡ (if nat_lt (i + 1) plan.areas then first_link plan + (i + 1) else 0)

-- in a start state, A0, A1, A8 and A9 are the plan's globals
abbrev pub HasGlobals : PlanData → List ℕ → Type 0
HasGlobals plan a = slice_index a 0 ∷ slice_index a 1 ∷ slice_index a 8 ∷ slice_index a 9 ∷ [] ≡ plan.globals

-- The machine is in a start state of the image under the plan: pc, the lists of areas, memory and
-- the stated registers. LCX has the link of the reserve's first area, and PSW.IO is 2. All that
-- isn't stated here can be anything.
pub record Starts (image : ImageData) (plan : PlanData) (m : Machine) : Type 0 where
  pub machine : IsMachine m
  pub memory : IsPlanMemory plan m.mem
  pub rom : HoldsRom image plan m.mem
  pub linked : AreAreasLinked plan m.mem
  pub fcx : m.fcx ≡ first_link plan
  pub lcx : m.lcx ≡ first_link plan + (plan.areas - plan.reserve)
  pub pcxi : m.pcxi ≡ 0
  pub pc : m.pc ≡ image.entry
  pub sp : slice_index m.a 10 ≡ plan.sp
  pub globals : HasGlobals plan m.a
  pub biv : m.biv ≡ plan.biv
  pub btv : m.btv ≡ plan.btv
  pub isp : m.isp ≡ plan.isp
  pub ie : m.ie ≡ plan.start_ie
  pub ccpn : m.ccpn ≡ plan.start_ccpn
  pub is : is_interrupt_stack_used m.psw ≡ plan.start_is
  pub io : m.psw / 2 ^ 10 % 4 ≡ 2
  pub end : m.end ≡ Running
  pub core : m.core ≡ plan.core

-- The state that starts the image under the plan, and in which all that a start state may choose is
-- 0. These are the registers that the plan doesn't give, the other bits of PSW, and the bytes of
-- ram. So are the rom bytes that no segment holds, and the words of the save areas that are no
-- link.
pub record IsZeroFilledStart (image : ImageData) (plan : PlanData) (m : Machine) : Type 0 where
  pub starts : Starts image plan m
  pub d : m.d ≡ 0 ∷ 0 ∷ 0 ∷ 0 ∷ 0 ∷ 0 ∷ 0 ∷ 0 ∷ 0 ∷ 0 ∷ 0 ∷ 0 ∷ 0 ∷ 0 ∷ 0 ∷ 0 ∷ []
  pub a : m.a ≡ a_at_start plan
  pub psw : m.psw ≡ psw_at_start plan.start_is
  pub ram : (x : ℕ) → IsInOneRange x 1 plan.ram → map.get m.mem x ≡ Some 0
  pub rom : (x : ℕ) → IsInOneRange x 1 plan.rom → image_byte image x ≡ None → map.get m.mem x ≡ Some 0
  pub words : (i k : ℕ) → i < plan.areas → 0 < k → k < 16 → area_word m.mem (first_link plan + i) k ≡ 0
