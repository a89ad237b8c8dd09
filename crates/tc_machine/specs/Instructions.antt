-- What each shape of instruction does (TriCore 1 Architecture Manual V1.3, volumes 1 and 2).
use Rattle.std.specs.Prelude.{ℕ, ◌-◌, ◌*◌, ◌/◌, ◌%◌, ◌^◌, Bool, true, false, not, ◌&&◌, ◌==◌, if◌then◌else◌, slice_set, ◌+◌}
use Rattle.csa_chain.specs.ContextWords.{pcpn_of, pie_of}
use Rattle.tc_isa.specs.Arithmetic.{alu_of, taken_of}
use Rattle.tc_isa.specs.declared.shapes.Arg.{Arg}
use Rattle.tc_isa.specs.declared.shapes.Arg.TheVariants.{Reg, Word}
use Rattle.tc_isa.specs.declared.shapes.Target.{Target}
use Rattle.tc_isa.specs.declared.shapes.Shape.{Shape}
use Rattle.tc_isa.specs.declared.shapes.Shape.TheVariants.{Compute, Scaled, Load, Store, Branch, Jump, Call, Ret, Rfe, Svlcx, Rslcx, Bisr, Enable, Disable, Syscall, Mfcr, Mtcr, Nothing}
use Rattle.tc_isa.specs.declared.shapes.Target.TheVariants as target
use Rattle.tc_machine.specs.declared.events.Event.{Event}
use Rattle.tc_machine.specs.declared.state.Machine.{Machine}
use Rattle.tc_machine.specs.Machine.{reg, with_reg, a11, if_running, core_register, with_core_register}
use Rattle.tc_machine.specs.SavesAndRestores.{save, restore}
use Rattle.csa_chain.specs.MemoryBytes.{loaded_number, with_bytes, load_result}
use Rattle.tc_machine.specs.Handlers.{after_trap}

-- ---- entries of handlers

-- the value of an operand: the word in its register, or the operand's own word
abbrev pub operand_value : Machine → Arg → ℕ
operand_value m (Reg r) = reg m r
operand_value m (Word w) = w

-- the sum of two words modulo 2 ^ 32, such as an address and a number of bytes
abbrev pub wrapping_sum : ℕ → ℕ → ℕ
wrapping_sum at by = (at + by) % 2 ^ 32

-- the machine with pc advanced over an instruction of n bytes, modulo 2 ^ 32
abbrev pub with_pc_advanced : ℕ → Machine → Machine
with_pc_advanced n m = record m { pc = wrapping_sum m.pc n }

-- ---- loads and stores
-- the address of an access: the base plus the offset, or the base alone with post-increment
abbrev pub access_address : Machine → Arg → ℕ → Bool → ℕ
access_address m base offset after = if after then operand_value m base else wrapping_sum (operand_value m base) offset

-- the machine after the post-increment of an access, if it has one: the offset is added to the base
-- register
abbrev pub with_base_incremented : Machine → Arg → ℕ → Bool → Machine
with_base_incremented m (Reg r) offset after = if after then with_reg m r (wrapping_sum (reg m r) offset) else m
with_base_incremented m (Word w) offset after = m

-- an access traps if its address x is no multiple of its size and the event has such traps
abbrev pub is_trapping_access : Event → ℕ → ℕ → Bool
is_trapping_access e x size = e.aln && not (x % size == 0)

-- what a load or store instruction does if its access is misaligned and traps: the trap of class 2,
-- number 4, back to the instruction itself
abbrev pub misaligned_access_trap : Machine → Machine
misaligned_access_trap m = after_trap m 2 4 m.pc

-- ---- instructions
-- the address that a jump or a call goes to; bit 0 of a register's value is dropped
abbrev pub target_address : Machine → Target → ℕ
target_address m (target.Rel by) = wrapping_sum m.pc by
target_address m (target.Abs x) = x
target_address m (target.Reg r) = reg m r / 2 * 2

-- the machine with a branch's register x decremented by 1 if lowers, as for loop
abbrev pub with_register_decremented : Machine → ℕ → Bool → Machine
with_register_decremented m x lowers = if lowers then with_reg m x (wrapping_sum (reg m x) (2 ^ 32 - 1)) else m

-- the machine m after an instruction of this shape and of n bytes, executed in the event e
unfoldable pub after_instruction : Machine → Event → Shape → ℕ → Machine
after_instruction m e (Compute op dst x y) n = with_pc_advanced n (with_reg m dst (alu_of op (operand_value m x) (operand_value m y)))
after_instruction m e (Scaled dst base index k) n = with_pc_advanced n (with_reg m dst (wrapping_sum (reg m base) (reg m index * 2 ^ k)))
after_instruction m e (Load dst base offset size signed after) n =
    let x = access_address m base offset after in
    if is_trapping_access e x size then misaligned_access_trap m
    else with_pc_advanced n (with_reg (with_base_incremented m base offset after) dst (load_result signed size (loaded_number m.mem e.input x size)))
after_instruction m e (Store src base offset size after) n =
    let x = access_address m base offset after in
    if is_trapping_access e x size then misaligned_access_trap m
    else with_pc_advanced n (record (with_base_incremented m base offset after) { mem = with_bytes m.mem x (reg m src) size })
after_instruction m e (Branch cond x y by lowers) n =
    let goes = taken_of cond (reg m x) (operand_value m y) in
    record (with_register_decremented m x lowers) { pc = if goes then wrapping_sum m.pc by else wrapping_sum m.pc n }
after_instruction m e (Jump to) n = record m { pc = target_address m to }
after_instruction m e (Call to) n = if_running (save m true) (λ s. record s { a = slice_set s.a 11 (wrapping_sum m.pc n); pc = target_address m to })
after_instruction m e Ret n = if_running (restore m true) (λ r. record r { pc = a11 m / 2 * 2 })
after_instruction m e Rfe n =
    if_running (restore m true) (λ r. record r { pc = a11 m / 2 * 2; ie = pie_of m.core m.pcxi; ccpn = pcpn_of m.core m.pcxi })
after_instruction m e Svlcx n = if_running (save m false) (with_pc_advanced n)
after_instruction m e Rslcx n = if_running (restore m false) (with_pc_advanced n)
after_instruction m e (Bisr c) n = if_running (save m false) (λ s. record (with_pc_advanced n s) { ccpn = c; ie = true })
after_instruction m e Enable n = record (with_pc_advanced n m) { ie = true }
after_instruction m e Disable n = record (with_pc_advanced n m) { ie = false }
after_instruction m e (Syscall tin) n = after_trap m 6 tin (wrapping_sum m.pc n)
after_instruction m e (Mfcr dst number) n = with_pc_advanced n (with_reg m dst (core_register m e number))
after_instruction m e (Mtcr src number) n = with_pc_advanced n (with_core_register m number (reg m src))
after_instruction m e Nothing n = with_pc_advanced n m

-- this instruction is a load or a store whose access is misaligned, and the event says that such
-- accesses trap
abbrev pub is_trapping_instruction : Machine → Event → Shape → Bool
is_trapping_instruction m e (Load dst base offset size signed after) = is_trapping_access e (access_address m base offset after) size
is_trapping_instruction m e (Store src base offset size after) = is_trapping_access e (access_address m base offset after) size
is_trapping_instruction m e _ = false
