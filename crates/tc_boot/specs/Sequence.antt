-- The boot sequence of a plan and an entry: 56 instructions of four bytes each.
use Rattle.std.specs.Prelude.{◌+◌, ◌-◌, ◌*◌, ◌^◌, ℕ, if◌then◌else◌, List, ◌∷◌, ◌++◌, slice_index, []}
use Rattle.std.specs.List.{flat_map}
use Rattle.elf_image.specs.Images.{ImageData}
use Rattle.tcd_plan.specs.PlanData.{PlanData}
use Rattle.tc_isa.specs.Insts.{InstData}
use Rattle.tc_isa.specs.NamedInstructions.{movh, addi, mov, movh_a, mtcr, mov_a, ji, isync, st_w_after, st_w_l, lea_l, loop_at, adjusted_upper_half, lower_half}
use Rattle.tc_isa.specs.Spelling.{instruction_bytes}
use Rattle.tc_machine.specs.PlanAreas.{first_link}

-- the bytes of these instructions, one after the other
abbrev pub bytes_of_boot_instructions : List InstData → List ℕ
bytes_of_boot_instructions insts = flat_map instruction_bytes insts

-- ---- words into registers
-- the instructions that write x to this core register, by D0; in force from the next one on
abbrev pub core_register_write : ℕ → ℕ → List InstData
core_register_write number x = movh 0 (adjusted_upper_half x) ∷ addi 0 0 (lower_half x) ∷ mtcr number 0 ∷ isync ∷ []

-- the instructions that set the address register of number r to the word x
abbrev pub address_register_write : ℕ → ℕ → List InstData
address_register_write r x = movh_a r (adjusted_upper_half x) ∷ lea_l r r (lower_half x) ∷ []

-- ---- the sequence, which is the project's own; the numbers of core registers are the
-- architecture's
-- the link word for LCX: that of the first CSA of the reserve
abbrev pub boot_limit_link : PlanData → ℕ
boot_limit_link plan = first_link plan + (plan.areas - plan.reserve)

-- The word for PSW. IO is 2, IS is the plan's, and the call depth isn't counted. GW is 1, so that
-- A0, A1, A8 and A9 can be written.
abbrev pub boot_psw : PlanData → ℕ
boot_psw plan = if plan.start_is then 0xb7f else 0x97f

-- instructions that write CCPN (in ICR, interrupts off), PCXI, FCX, LCX, BIV, BTV, ISP and PSW
abbrev pub boot_core_setup : PlanData → List InstData
boot_core_setup plan =
    core_register_write 0xfe2c plan.start_ccpn ++ core_register_write 0xfe00 0 ++ core_register_write 0xfe38 (first_link plan) ++ core_register_write 0xfe3c (boot_limit_link plan)
    ++ core_register_write 0xfe20 plan.biv ++ core_register_write 0xfe24 plan.btv ++ core_register_write 0xfe28 plan.isp ++ core_register_write 0xfe04 (boot_psw plan)

-- instructions that set D0 to the first link word, A2 to the first CSA, A3 to the CSAs less one
abbrev pub boot_loop_setup : PlanData → List InstData
boot_loop_setup plan =
    movh 0 (adjusted_upper_half (first_link plan)) ∷ addi 0 0 (lower_half (first_link plan)) ∷ address_register_write 2 plan.csa_at
    ++ mov 1 (plan.areas - 1) ∷ mov_a 3 1 ∷ []

-- the instructions of the loop that writes into each CSA the link word of the next one
abbrev pub boot_link_loop : List InstData
boot_link_loop = addi 0 0 1 ∷ st_w_after 2 64 0 ∷ loop_at 3 (2 ^ 15 - 4) ∷ []

-- the instructions that write 0 into the last CSA, as the end of the list
abbrev pub boot_list_end : List InstData
boot_list_end = mov 1 0 ∷ st_w_l 2 (2 ^ 16 - 64) 1 ∷ []

-- the instructions that set the global registers and the stack pointer
abbrev pub boot_address_setup : PlanData → List InstData
boot_address_setup plan =
    address_register_write 0 (slice_index plan.globals 0) ++ address_register_write 1 (slice_index plan.globals 1) ++ address_register_write 8 (slice_index plan.globals 2)
    ++ address_register_write 9 (slice_index plan.globals 3) ++ address_register_write 10 plan.sp

-- the instructions that jump to the entry, by A15
abbrev pub boot_jump : ℕ → List InstData
boot_jump entry = address_register_write 15 entry ++ ji 15 ∷ []

-- the whole sequence: 32, 6, 3, 2, 10 and 3 instructions
abbrev pub boot_sequence : PlanData → ℕ → List InstData
boot_sequence plan entry = boot_core_setup plan ++ boot_loop_setup plan ++ boot_link_loop ++ boot_list_end ++ boot_address_setup plan ++ boot_jump entry

-- ---- its bytes

-- the bytes of the sequence
abbrev pub boot_bytes_of : PlanData → ℕ → List ℕ
boot_bytes_of plan entry = bytes_of_boot_instructions (boot_sequence plan entry)

-- the length of the boot sequence in events: three for each CSA in its loop, and one for each of
-- its other 53 instructions
abbrev pub boot_events : PlanData → ℕ
boot_events plan = 53 + 3 * plan.areas

-- the image whose one segment is the sequence at an address
abbrev pub boot_image_of : PlanData → ℕ → ℕ → ImageData
boot_image_of plan entry at = record { entry = at; segments = record { at = at; bytes = boot_bytes_of plan entry } ∷ [] }
