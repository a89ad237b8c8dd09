-- Entries of handlers of traps and interrupts.
use Rattle.std.specs.Prelude.{ℕ, ◌+◌, ◌*◌, ◌/◌, ◌%◌, ◌^◌, true, false, if◌then◌else◌, slice_set, bit_or}
use Rattle.tc_machine.specs.declared.state.Machine.{Machine}
use Rattle.tc_machine.specs.Machine.{a10, is_interrupt_stack_used, if_running}
use Rattle.tc_machine.specs.SavesAndRestores.{save}

-- A10 in a handler of a trap or an interrupt: the interrupt stack's pointer, or A10 as it is if
-- that stack is in use already
abbrev pub handler_stack_pointer : Machine → ℕ
handler_stack_pointer m = if is_interrupt_stack_used m.psw then a10 m else m.isp

-- PSW in a handler of a trap or an interrupt: IO (bits 11:10) is 2, PRS (bits 13:12) 0, IS (bit 9)
-- 1 and GW (bit 8) 0; the other bits stay
abbrev pub handler_psw : ℕ → ℕ
handler_psw psw = psw / 2 ^ 14 * 2 ^ 14 + 2 * 2 ^ 10 + 2 ^ 9 + psw % 2 ^ 8

-- the machine at the entry of a handler, after the save s: A11 is the address to return to, A10 and
-- PSW are the handler's, IE is off, and pc is the entry
abbrev pub at_handler_entry : Machine → Machine → ℕ → ℕ → Machine
at_handler_entry m s back entry = record s {
  a = slice_set (slice_set s.a 11 back) 10 (handler_stack_pointer m);
  psw = handler_psw m.psw;
  ie = false;
  pc = entry;
}

-- the machine after a trap: the upper context is saved, the handler of the class entered with
-- return address back, and D15 is tin
abbrev pub after_trap : Machine → ℕ → ℕ → ℕ → Machine
after_trap m class tin back =
    if_running (save m true) (λ s. record (at_handler_entry m s back (bit_or m.btv (class * 2 ^ 5))) { d = slice_set s.d 15 tin })

-- the machine after an interrupt is taken (manual, volume 1, interrupts): the upper context saved,
-- CCPN irq, and pc BIV with irq in bits 12:5
abbrev pub after_interrupt : Machine → ℕ → Machine
after_interrupt m irq =
    if_running (save m true) (λ s. record (at_handler_entry m s m.pc (bit_or m.biv (irq * 2 ^ 5))) { ccpn = irq })
