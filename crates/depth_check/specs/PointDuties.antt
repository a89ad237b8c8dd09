-- The duties of a point that is checked, by its plain data.
use Rattle.std.specs.Prelude.{ℕ, Bool, List, unwrap_or, []}
use Rattle.std.specs.List.{flat_map}
use Rattle.tc_isa.specs.declared.shapes.Shape.{Shape}
use Rattle.tc_isa.specs.declared.shapes.Target.{Target}
use Rattle.value_domain.specs.declared.states.State.{State}
use Rattle.vd_transfer.specs.Branches.{refine_of}
use Rattle.cfg_recover.specs.declared.local_rules.Located.{Located}
use Rattle.cfg_recover.specs.LocalFaults.{IsFaultlessShape}
use Rattle.cfg_recover.specs.LocalRules.{targets_of}
use Rattle.cfg_recover.specs.Entries.{call_key, sys_key, sys_entry}
use Rattle.cfg_recover.specs.Duties.{Owed, duties_of, entry_and_return, entry_duties_of, interrupt_duties_of, branch_duty, misaligned_duties_of, misaligned_entry, next_duty_of, successor_duties_of}
use Rattle.depth_check.specs.PointCheckData.{PointCheckData}

-- the located instruction stands at the checked point, and breaks no rule with the point's state
abbrev pub IsFaultlessInstructionAt : PointCheckData → Located → Type 0
IsFaultlessInstructionAt at found = IsFaultlessShape at.bounds at.image at.plan at.node.key at.point.addr at.point.state found

-- all duties of the checked point by this instruction
abbrev pub all_duties_at : PointCheckData → Located → List Owed
all_duties_at at found = duties_of at.bounds at.image at.plan at.node.key at.point.addr at.point.state found.shape found.size

-- the checked point's duties to jump to its successors in the frame
abbrev pub successor_duties_at : PointCheckData → Located → List Owed
successor_duties_at at found = successor_duties_of at.bounds at.image at.plan at.point.addr at.point.state found.shape found.size

-- the checked point's duty to jump to the next instruction, with the state after its own
abbrev pub next_duties_at : PointCheckData → Located → List Owed
next_duties_at at found = next_duty_of at.bounds at.image at.plan at.point.addr at.point.state found.shape found.size

-- the checked branch's duty on one side: to jump to q with the state refined for that side, if the
-- side is possible
abbrev pub branch_duties_at : PointCheckData → ℕ → Shape → Bool → List Owed
branch_duties_at at q shape taken = branch_duty q (refine_of at.bounds at.plan shape at.point.state taken)

-- the checked point's duties by a call or SYSCALL: to enter frames, and to go on after their
-- returns
abbrev pub entry_duties_at : PointCheckData → Shape → ℕ → List Owed
entry_duties_at at shape size = entry_duties_of at.plan at.node.key at.point.addr at.point.state shape size

-- the checked point's duties by its access: to enter the handler of misaligned accesses, if the
-- access may be misaligned
abbrev pub misaligned_duties_at : PointCheckData → Located → List Owed
misaligned_duties_at at found = misaligned_duties_of at.bounds at.plan at.node.key at.point.state found.shape

-- the checked point's duty to enter the handler of misaligned accesses
abbrev pub misaligned_duty_at : PointCheckData → Owed
misaligned_duty_at at = misaligned_entry at.plan at.node.key at.point.state

-- the checked point's duties to enter the handler of each interrupt that may be taken
abbrev pub interrupt_duties_at : PointCheckData → List Owed
interrupt_duties_at at = interrupt_duties_of at.plan at.node.key at.point.state

-- the addresses to which the checked point may jump or call by this target; none if they are
-- unknown
abbrev pub possible_targets_at : PointCheckData → Target → List ℕ
possible_targets_at at to = unwrap_or (targets_of at.plan at.point.state at.point.addr to) []

-- the checked point's duties by a call of the functions at these addresses: to enter each with this
-- state, and to go on at `back` after its return
abbrev pub call_duties_at : PointCheckData → State → ℕ → List ℕ → List Owed
call_duties_at at entry back targets = flat_map (λ t. entry_and_return 5 (call_key at.node.key t) entry back) targets

-- the checked point's duties by SYSCALL: to enter the handler of system calls, and to go on at
-- `back` after its return
abbrev pub system_call_duties_at : PointCheckData → ℕ → ℕ → List Owed
system_call_duties_at at tin back = entry_and_return 12 (sys_key at.plan at.node.key) (sys_entry at.plan at.node.key at.point.state tin) back
