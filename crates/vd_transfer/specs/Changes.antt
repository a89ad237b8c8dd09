-- Changes: what an instruction changes of a state, and the state afterwards.
use Rattle.std.specs.Prelude.{ℕ, List, replicate, Option, Some, None, slice_set}
use Rattle.value_domain.specs.declared.values.Val.{Val}
use Rattle.value_domain.specs.declared.states.State.{State}
use Rattle.value_domain.specs.Values.{any_val}
use Rattle.vd_transfer.specs.declared.change.Base.{Base}
use Rattle.vd_transfer.specs.declared.change.Base.TheVariants.{Same, Forgotten, Any}
use Rattle.vd_transfer.specs.declared.change.RegisterWrite.{RegisterWrite}
use Rattle.vd_transfer.specs.declared.change.Change.{Change}
use Rattle.vd_transfer.specs.Registers.{register_slot}
use Rattle.vd_transfer.specs.EffectsOnStates.{with_lower_unknown}

-- the values that a change starts from: the state's own, those with the lower registers unknown, or
-- unknown everywhere
abbrev pub base_values : Base → List Val → List Val
base_values Same regs = regs
base_values Forgotten regs = with_lower_unknown regs
base_values Any regs = replicate 27 any_val

-- the values with v in this slot; all as they are without a slot
abbrev pub with_value_in_slot : List Val → Val → Option ℕ → List Val
with_value_in_slot vs v None = vs
with_value_in_slot vs v (Some i) = slice_set vs i v

-- the values of a state after one write of a change
abbrev pub with_write : List Val → RegisterWrite → List Val
with_write vs write = with_value_in_slot vs write.value write.at

-- a state's register values after a change: those that the change starts from, with its three
-- writes one after another
abbrev pub changed_values : Change → List Val → List Val
changed_values c vs = with_write (with_write (with_write (base_values c.base vs) c.first) c.second) c.third

-- the state after a change
abbrev pub state_after : State → Change → State
state_after s c = record {
  regs = changed_values c s.regs;
  ie = c.ie;
  ccpn = c.ccpn;
  lower = c.lower;
  locals = c.locals;
}

-- the write of a change that changes nothing: a value for no slot
abbrev pub no_write : RegisterWrite
no_write = record { at = None; value = any_val }

-- the write of a register's value, to its slot in a state if there is one
abbrev pub register_write : ℕ → Val → RegisterWrite
register_write r v = record { at = register_slot r; value = v }

-- the identity change of a state, which keeps the whole state
abbrev pub identity_change_of : State → Change
identity_change_of s = record {
  base = Same;
  first = no_write;
  second = no_write;
  third = no_write;
  ie = s.ie;
  ccpn = s.ccpn;
  lower = s.lower;
  locals = s.locals;
}

-- the identity change of a state, with the values of another change's writes, for no slot
abbrev pub identity_keeping_values : Change → State → Change
identity_keeping_values c s = record (identity_change_of s) { first = record c.first { at = None }; second = record c.second { at = None }; third = record c.third { at = None } }
