-- A state holds the words of the machine's registers.
use Rattle.std.specs.Prelude.{◌<◌, ◌≤◌, ℕ, Bool, IsTrue}
use Rattle.tcd_plan.specs.PlanData.{PlanData}
use Rattle.value_domain.specs.declared.states.State.{State}
use Rattle.value_domain.specs.Values.{IsMember}
use Rattle.vd_transfer.specs.Registers.{reg_of}

-- Each of the 32 registers has a member of its value (so A0, A1, A8 and A9 have the plan's words).
-- Interrupts are enabled only if the state allows it, and CCPN is at least the state's. Registers
-- are 0 to 15 for D, 16 to 31 for A.
pub record Holds (p : PlanData) (word : ℕ → ℕ) (ie : Bool) (ccpn : ℕ) (s : State) : Type 0 where
  pub regs : (r : ℕ) → r < 32 → IsMember (word r) (reg_of p s r)
  pub enabled : IsTrue ie → IsTrue s.ie
  pub priority : s.ccpn ≤ ccpn
