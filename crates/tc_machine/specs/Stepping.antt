-- Steps and runs.
use Rattle.std.specs.Prelude.{ℕ, Bool, ◌&&◌, nat_lt, if◌then◌else◌, List, ◌∷◌, length, Option, Some, None, Result, Ok, Err, ◌≡◌, suc, []}
use Rattle.std.specs.Option.{option_map}
use Rattle.csa_chain.specs.Chain.{chain}
use Rattle.tc_encode.specs.Decoding.{decoded_of}
use Rattle.tc_isa.specs.declared.shapes.Shape.{Shape}
use Rattle.tc_isa.specs.declared.shapes.Shape.TheVariants.{Load, Store}
use Rattle.tc_machine.specs.declared.events.Cause.{Cause}
use Rattle.tc_machine.specs.declared.events.Event.{Event}
use Rattle.tc_machine.specs.declared.events.End.{End}
use Rattle.tc_machine.specs.declared.events.End.TheVariants.{Running, Dead}
use Rattle.tc_machine.specs.declared.state.Machine.{Machine}
use Rattle.tc_machine.specs.Machine.{dead_machine, if_running, psw_with_status}
use Rattle.tc_machine.specs.Instructions.{after_instruction, access_address, is_trapping_access}
use Rattle.tc_machine.specs.Handlers.{after_interrupt}
use Rattle.tc_machine.specs.Fetching.{fetched_instruction, mapped_bytes, fetched_shape}

-- the event's interrupt is taken: interrupts are enabled, and its priority is above the current one
abbrev pub is_interrupt_taken : Machine → Event → Bool
is_interrupt_taken m e = m.ie && nat_lt m.ccpn e.irq

-- the machine after what was fetched at pc: the instruction is executed, or the machine dies by the
-- cause
abbrev pub after_fetch_result : Machine → Event → Result (Shape × ℕ) Cause → Machine
after_fetch_result m e (Ok found) = after_instruction m e found.0 found.1
after_fetch_result m e (Err cause) = dead_machine cause m

-- an event of a machine that runs: an interrupt, else the instruction at pc
abbrev pub machine_after_event : Machine → Event → Machine
machine_after_event m e = if is_interrupt_taken m e then after_interrupt m e.irq else after_fetch_result m e (fetched_instruction m)

-- One event. A dead machine doesn't change. If the machine still runs after the event, the status
-- byte of PSW is the event's.
unfoldable pub step : Machine → Event → Machine
step m e = if_running m (λ m. if_running (machine_after_event m e) (λ n. record n { psw = psw_with_status n.psw e.status }))

-- the machine after these events, one after another
abbrev pub run : Machine → List Event → Machine
run m [] = m
run m (e ∷ es) = run (step m e) es

-- what a machine's next step loads or stores, as found at pc, if the machine runs; none if it is
-- dead
abbrev pub none_if_dead : End → Option (ℕ × ℕ) → Option (ℕ × ℕ)
none_if_dead Running found = found
none_if_dead (Dead cause) found = None

-- the address and the size of the load, if one was fetched, whether its access traps or not; none
-- for other instructions
abbrev pub load_of_fetched : Machine → Result (Shape × ℕ) Cause → Option (ℕ × ℕ)
load_of_fetched m (Ok (Load dst base offset size signed after, n)) = Some (access_address m base offset after, size)
load_of_fetched m _ = None

-- what the machine's next step may load: the address and the size, if the instruction at pc is a
-- load; none at an odd pc
abbrev pub load_at_pc : Machine → Option (ℕ × ℕ)
load_at_pc m = load_of_fetched m (fetched_instruction m)

-- what a machine's next step may load: address and size of the load that the bytes at pc do, at odd
-- pc too; none if the machine is dead, the bytes don't decode, or they are no load
abbrev pub next_load_of : Machine → Option (ℕ × ℕ)
next_load_of m = none_if_dead m.end (load_of_fetched m (fetched_shape (decoded_of (mapped_bytes 4 m.mem m.pc))))

-- the number of areas in use between two steps of a machine: the length of the chain from its PCXI;
-- none if it has over 4,096 links or reaches an area that isn't mapped
abbrev pub used_area_count : Machine → Option ℕ
used_area_count m = option_map length (chain m.mem m.pcxi)

-- what a step with this event and this found instruction stores at: the address and the size, if it
-- is a store and its access doesn't trap
abbrev pub store_of_fetched : Machine → Event → Result (Shape × ℕ) Cause → Option (ℕ × ℕ)
store_of_fetched m e (Ok (Store src base offset size after, n)) =
    if is_trapping_access e (access_address m base offset after) size then None else Some (access_address m base offset after, size)
store_of_fetched m e _ = None

-- what the machine's step under this event stores at: address and size. It is none if the machine
-- is dead, takes an interrupt or a misaligned access's trap, or executes no store
unfoldable pub stored : Machine → Event → Option (ℕ × ℕ)
stored m e = none_if_dead m.end (if is_interrupt_taken m e then None else store_of_fetched m e (fetched_instruction m))

-- a run of a machine as a sequence of states: a step under its event leads from each state to the
-- next
abbrev pub IsRun : (ℕ → Machine) → (ℕ → Event) → Type 0
IsRun states events = (k : ℕ) → states (suc k) ≡ step (states k) (events k)
