-- The state of the machine: its registers, its memory and its end.
use Rattle.std.specs.Prelude.{ℕ, ◌+◌, ◌-◌, ◌/◌, ◌%◌, ◌^◌, Bool, ◌==◌, nat_lt, if◌then◌else◌, slice_index, slice_set, ◌*◌, ◌≡◌, ◌<◌, List, length, All}
use Rattle.tc_machine.specs.declared.events.Cause.{Cause}
use Rattle.tc_machine.specs.declared.events.End.{End}
use Rattle.tc_machine.specs.declared.events.End.TheVariants.{Running, Dead}
pub use Rattle.tc_machine.specs.declared.state.Machine.{Machine}
use Rattle.csa_chain.specs.MemoryBytes.{HasOnlyBytes}
use Rattle.tc_machine.specs.declared.events.Event.{Event}
use Rattle.tc_machine.specs.declared.state.Machine.{Machine}

-- the word in register r of a machine: 0 to 15 are D0 to D15, 16 to 31 are A0 to A15
abbrev pub reg : Machine → ℕ → ℕ
reg m r = if nat_lt r 16 then slice_index m.d r else slice_index m.a (r - 16)

-- the machine with the word w in register r
abbrev pub with_reg : Machine → ℕ → ℕ → Machine
with_reg m r w = if nat_lt r 16 then record m { d = slice_set m.d r w } else record m { a = slice_set m.a (r - 16) w }

-- the stack pointer, A10
abbrev pub a10 : Machine → ℕ
a10 m = slice_index m.a 10

-- the return address, A11
abbrev pub a11 : Machine → ℕ
a11 m = slice_index m.a 11

-- PSW.IS, bit 9: the interrupt stack is in use
abbrev pub is_interrupt_stack_used : ℕ → Bool
is_interrupt_stack_used psw = psw / 2 ^ 9 % 2 == 1

-- the machine, dead by this cause: only its end changes
abbrev pub dead_machine : Cause → Machine → Machine
dead_machine cause m = record m { end = Dead cause }

-- the machine after its next change, if its end says that it runs; a dead machine stays as it is
abbrev pub if_end_running : End → Machine → (Machine → Machine) → Machine
if_end_running Running m next = next m
if_end_running (Dead cause) m next = m

-- the machine after a next change if the machine runs; a dead machine doesn't change
abbrev pub if_running : Machine → (Machine → Machine) → Machine
if_running m next = if_end_running m.end m next

-- the machine's end is a death, of any cause
abbrev pub IsDead : End → Type 0
IsDead Running = ⊥
IsDead (Dead cause) = Unit {0}

-- PSW with this status in bits 31:24
abbrev pub psw_with_status : ℕ → ℕ → ℕ
psw_with_status psw status = status * 2 ^ 24 + psw % 2 ^ 24

-- the 16 words, each below 2 ^ 32, that D0 to D15 or A0 to A15 of a machine hold
pub record AreRegisters (ws : List ℕ) : Type 0 where
  pub count : length ws ≡ 16
  pub words : All (λ w. w < 2 ^ 32) ws

-- bounds of the registers and the memory of a machine: 32-bit words, a CCPN of one byte, and bytes
-- in the memory
pub record IsMachine (m : Machine) : Type 0 where
  pub d : AreRegisters m.d
  pub a : AreRegisters m.a
  pub pc : m.pc < 2 ^ 32
  pub psw : m.psw < 2 ^ 32
  pub pcxi : m.pcxi < 2 ^ 32
  pub fcx : m.fcx < 2 ^ 32
  pub lcx : m.lcx < 2 ^ 32
  pub ccpn : m.ccpn < 2 ^ 8
  pub biv : m.biv < 2 ^ 32
  pub btv : m.btv < 2 ^ 32
  pub isp : m.isp < 2 ^ 32
  pub bytes : HasOnlyBytes m.mem

-- what an instruction reads from the core register ICR: CCPN in bits 7:0, IE in bit 8, the other
-- bits from the input
abbrev pub icr_of : Machine → ℕ → ℕ
icr_of m input = input / 2 ^ 9 * 2 ^ 9 + (if m.ie then 2 ^ 8 else 0) + m.ccpn

-- the word that is read from the core register with this number, such as PSW or FCX; if the machine
-- has none with this number, the event's input
abbrev pub core_register : Machine → Event → ℕ → ℕ
core_register m e number =
    if number == 0xfe00 then m.pcxi
    else if number == 0xfe04 then m.psw
    else if number == 0xfe20 then m.biv
    else if number == 0xfe24 then m.btv
    else if number == 0xfe28 then m.isp
    else if number == 0xfe2c then icr_of m e.input
    else if number == 0xfe38 then m.fcx
    else if number == 0xfe3c then m.lcx
    else e.input

-- the machine after a write to the core register with this number; BIV and BTV drop bit 0, ICR
-- takes bits 8:0, any other number changes nothing
abbrev pub with_core_register : Machine → ℕ → ℕ → Machine
with_core_register m number w =
    if number == 0xfe00 then record m { pcxi = w }
    else if number == 0xfe04 then record m { psw = w }
    else if number == 0xfe20 then record m { biv = w / 2 * 2 }
    else if number == 0xfe24 then record m { btv = w / 2 * 2 }
    else if number == 0xfe28 then record m { isp = w }
    else if number == 0xfe2c then record m { ccpn = w % 2 ^ 8; ie = w / 2 ^ 8 % 2 == 1 }
    else if number == 0xfe38 then record m { fcx = w }
    else if number == 0xfe3c then record m { lcx = w }
    else m
