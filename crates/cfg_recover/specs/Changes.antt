-- How the entry of a frame changes the state of the point that enters it, and a point at which no
-- rule's own part fails.
use Rattle.std.specs.Prelude.{ℕ, false, true, []}
use Rattle.value_domain.specs.declared.values.Val.{Val}
use Rattle.value_domain.specs.declared.states.State.{State}
use Rattle.vd_transfer.specs.declared.change.Base.TheVariants.{Any}
use Rattle.vd_transfer.specs.declared.change.Change.{Change}
use Rattle.value_domain.specs.Values.{word_val}
use Rattle.vd_transfer.specs.Changes.{identity_change_of, no_write, register_write}

-- the change at a called function's entry: all values stay, no locals, and `lower` is false
abbrev pub call_entry_change : State → Change
call_entry_change s = record (identity_change_of s) { lower = false; locals = record { items = [] } }

-- A system call's handler begins with the caller's values, except A10 (register 26) and D15, which
-- has the number of the call.
abbrev pub sys_entry_change : Val → ℕ → State → Change
sys_entry_change sp tin s = record (call_entry_change s) { first = register_write 26 sp; second = register_write 15 (word_val tin); ie = false }

-- the change from any state to that at the entry of an interrupt's handler: A10 (register 26) is
-- sp, no other register is known, interrupts are off, CCPN is ccpn, and the lower registers are the
-- entry's
abbrev pub handler_entry_change : Val → ℕ → Change
handler_entry_change sp ccpn = record {
  base = Any;
  first = register_write 26 sp;
  second = no_write;
  third = no_write;
  ie = false;
  ccpn = ccpn;
  lower = true;
  locals = record { items = [] };
}

-- the change at the entry of the handler of misaligned accesses: only A10 is known, and D15, which
-- has the trap's number 4
abbrev pub aln_entry_change : Val → ℕ → Change
aln_entry_change sp ccpn = record (handler_entry_change sp ccpn) { second = register_write 15 (word_val 4) }
