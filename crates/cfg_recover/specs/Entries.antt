-- The frames that an instruction, an interrupt or a trap enters: their keys, and the states at
-- their entries.
use Rattle.std.specs.Prelude.{◌*◌, ◌^◌, ℕ, Bool, true, false, if◌then◌else◌, replicate, bit_or, nat_lt, List, ◌∷◌, filter, ◌==◌, []}
use Rattle.std.specs.List.{flat_map}
use Rattle.depth_cert.specs.Keys.{start_kind, call_kind, irq_kind, sys_kind, aln_kind}
use Rattle.elf_image.specs.Images.{ImageData}
use Rattle.tcd_plan.specs.PlanData.{PlanData}
use Rattle.value_domain.specs.declared.values.Val.{Val}
use Rattle.value_domain.specs.declared.states.State.{State}
use Rattle.value_domain.specs.Values.{any_val, word_val}
use Rattle.vd_transfer.specs.Registers.{reg_of, with_reg_value}
use Rattle.depth_cert.specs.declared.keys.Key.{Key}

-- ---- keys: kind 0 is the start, 1 a call, 2 an interrupt, 3 a system call, 4 a misaligned access
-- The start frame begins at the entry of the image, at priority 0, on the stack that the plan
-- names.
abbrev pub start_key : ImageData → PlanData → Key
start_key image plan = record { kind = start_kind; entry = image.entry; prio = 0; is = plan.start_is }

-- a called function runs at its caller's priority and on its caller's stack
abbrev pub call_key : Key → ℕ → Key
call_key key target = record { kind = call_kind; entry = target; prio = key.prio; is = key.is }

-- the keys of the frames of functions at these addresses that a frame of this key calls
abbrev pub call_keys : Key → List ℕ → List Key
call_keys key targets = flat_map (λ t. call_key key t ∷ []) targets

-- The handler of an interrupt is at BIV with the priority in bits 12:5 (TriCore 1 Architecture
-- Manual V1.3, volume 1, interrupts). It runs on the interrupt stack.
abbrev pub irq_key : PlanData → ℕ → Key
irq_key plan p = record { kind = irq_kind; entry = bit_or plan.biv (p * 2 ^ 5); prio = p; is = true }

-- The handlers of traps are at BTV with the class in bits 7:5 (manual, volume 1, traps): class 6
-- for system calls, class 2 for misaligned accesses.
abbrev pub sys_key : PlanData → Key → Key
sys_key plan key = record { kind = sys_kind; entry = bit_or plan.btv (6 * 2 ^ 5); prio = key.prio; is = true }

-- the key of the handler of misaligned accesses, which a frame of this key enters
abbrev pub aln_key : PlanData → Key → Key
aln_key plan key = record { kind = aln_kind; entry = bit_or plan.btv (2 * 2 ^ 5); prio = key.prio; is = true }

-- ---- states at entries
-- the stack pointer of a handler: the start of the interrupt stack, or the state's A10 (register
-- 26) if that stack is in use
abbrev pub handler_entry_sp_of : PlanData → Key → State → Val
handler_entry_sp_of plan key s = if key.is then reg_of plan s 26 else word_val plan.isp

-- a state in which only A10 is known, with the value sp, and without saved lower contexts
abbrev pub state_with_only_a10 : Val → Bool → ℕ → Bool → State
state_with_only_a10 sp ie ccpn lower =
    with_reg_value (record { regs = replicate 27 any_val; ie = ie; ccpn = ccpn; lower = lower; locals = record { items = [] } }) 26 sp

-- the state at the entry of the start frame, in which only A10, IE and CCPN are known, from the
-- plan
abbrev pub start_state : PlanData → State
start_state plan = state_with_only_a10 (word_val plan.sp) plan.start_ie plan.start_ccpn false

-- at the entry of a called function: the caller's state, without its locals
abbrev pub call_entry : State → State
call_entry s = record s { lower = false; locals = record { items = [] } }

-- At the entry of the handler of interrupt p, interrupts are off, and the lower registers are the
-- entry's.
abbrev pub irq_entry : PlanData → Key → State → ℕ → State
irq_entry plan key s p = state_with_only_a10 (handler_entry_sp_of plan key s) false p true

-- At the entry of the handler of misaligned accesses, D15 has the trap's number 4, too.
abbrev pub aln_entry : PlanData → Key → State → State
aln_entry plan key s = with_reg_value (state_with_only_a10 (handler_entry_sp_of plan key s) false s.ccpn true) 15 (word_val 4)

-- At the entry of the handler of system calls, the state is the caller's. D15 has the number of the
-- call.
abbrev pub sys_entry : PlanData → Key → State → ℕ → State
sys_entry plan key s tin =
    record (with_reg_value (with_reg_value s 26 (handler_entry_sp_of plan key s)) 15 (word_val tin)) { ie = false; lower = false; locals = record { items = [] } }

-- ---- handlers
-- the key of a handler of an interrupt or a trap, which runs on the interrupt stack
abbrev pub handler_key : ℕ → ℕ → ℕ → Key
handler_key kind entry prio = record { kind = kind; entry = entry; prio = prio; is = true }

-- The interrupts that may be taken: if interrupts may be enabled, each interrupt of the plan above
-- the lower bound of CCPN.
abbrev pub possible_irqs_of : PlanData → State → List ℕ
possible_irqs_of plan s = if s.ie then filter (λ p. nat_lt s.ccpn p) plan.irqs else []

-- a handler's stack pointer: the interrupt stack's start, or this A10 if that stack is in use
abbrev pub handler_entry_sp_from_a10 : PlanData → Key → Val → Val
handler_entry_sp_from_a10 plan key sp = if key.is then sp else word_val plan.isp

-- the key of a frame that is entered at an address: by a call it runs on its caller's stack, in any
-- other way on the interrupt stack; its priority is that of the frame that enters it
abbrev pub entered_key : Key → ℕ → ℕ → Key
entered_key key kind target = record { kind = kind; entry = target; prio = key.prio; is = if kind == call_kind then key.is else true }
