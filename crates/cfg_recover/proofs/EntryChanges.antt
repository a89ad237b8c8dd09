-- The states after the changes at the entries of frames.
use Rattle.std.proofs.Common.{◌≡◌, ℕ, true, false, refl}
use Rattle.tcd_plan.specs.PlanData.{PlanData}
use Rattle.value_domain.specs.declared.values.Val.{Val}
use Rattle.value_domain.specs.declared.states.State.{State}
use Rattle.value_domain.specs.Limits.{Limits, AreLimits}
use Rattle.value_domain.specs.Values.{IsInLattice, word_val}
use Rattle.value_domain.specs.State.{AreInLattice}
use Rattle.vd_transfer.specs.Registers.{register_slot}
use Rattle.vd_transfer.specs.Changes.{state_after}
use Rattle.depth_cert.specs.declared.keys.Key.{Key}
use Rattle.cfg_recover.specs.Entries.{handler_entry_sp_of, state_with_only_a10, aln_entry, sys_entry}
use Rattle.cfg_recover.specs.Changes.{sys_entry_change, handler_entry_change, aln_entry_change}
use Rattle.cfg_recover.proofs.FlowStates.{set_values, entry_values}

pub handler-is : (s : State) (sp : Val) (ccpn : ℕ) → state_after s (handler_entry_change sp ccpn) ≡ state_with_only_a10 sp false ccpn true
unfolding register_slot
handler-is s sp ccpn = refl

pub misaligned-is : (plan : PlanData) (key : Key) (s : State) → state_after s (aln_entry_change (handler_entry_sp_of plan key s) s.ccpn) ≡ aln_entry plan key s
unfolding register_slot
misaligned-is plan key s = refl

pub system-is : (plan : PlanData) (key : Key) (s : State) (tin : ℕ) → state_after s (sys_entry_change (handler_entry_sp_of plan key s) tin s) ≡ sys_entry plan key s tin
unfolding register_slot
system-is plan key s tin = refl

-- ---- the values of these states
pub handler_values : (b : Limits) (s : State) (sp : Val) (ccpn : ℕ) → AreLimits b → IsInLattice b sp → AreInLattice b (state_after s (handler_entry_change sp ccpn)).regs
unfolding register_slot
handler_values b s sp ccpn limits value = entry_values b sp false ccpn true limits value

pub misaligned_values : (b : Limits) (s : State) (sp : Val) (ccpn : ℕ) → AreLimits b → IsInLattice b sp → IsInLattice b (word_val 4) → AreInLattice b (state_after s (aln_entry_change sp ccpn)).regs
unfolding register_slot
misaligned_values b s sp ccpn limits value four = set_values b (state_with_only_a10 sp false ccpn true).regs 15 (word_val 4) (entry_values b sp false ccpn true limits value) four

pub system_values : (b : Limits) (s : State) (sp : Val) (tin : ℕ) → AreInLattice b s.regs → IsInLattice b sp → IsInLattice b (word_val tin) → AreInLattice b (state_after s (sys_entry_change sp tin s)).regs
unfolding register_slot
system_values b s sp tin values value number = set_values b _ 15 (word_val tin) (set_values b s.regs 22 sp values value) number
