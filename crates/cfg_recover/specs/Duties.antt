-- What a point owes: the points, entries and exits that a certificate must have, because the
-- machine may come there from this point, and the states that they must cover.
use Rattle.std.specs.Prelude.{◌==◌, ℕ, Bool, true, false, not, if◌then◌else◌, List, ◌∷◌, ◌++◌, map, Option, Some, None, unwrap_or, []}
use Rattle.std.specs.List.{flat_map}
use Rattle.depth_cert.specs.Keys.{sys_kind}
use Rattle.elf_image.specs.Images.{ImageData}
use Rattle.tcd_plan.specs.PlanData.{PlanData}
use Rattle.tc_isa.specs.declared.shapes.Shape.{Shape}
use Rattle.tc_isa.specs.declared.shapes.Shape.TheVariants.{Load, Store, Branch, Jump, Call, Ret, Rfe, Syscall, Mtcr}
use Rattle.tc_machine.specs.Instructions.{wrapping_sum}
use Rattle.value_domain.specs.declared.values.Val.{Val}
use Rattle.value_domain.specs.declared.states.State.{State}
use Rattle.value_domain.specs.Limits.{Limits}
use Rattle.value_domain.specs.Values.{any_val}
use Rattle.vd_transfer.specs.EffectsOnStates.{transfer_of, address_of_access}
use Rattle.vd_transfer.specs.Branches.{refine_of}
use Rattle.store_ranges.specs.Loads.{load_value_of}
use Rattle.depth_cert.specs.declared.keys.Key.{Key}
use Rattle.depth_cert.specs.declared.points.Exit.{Exit}
use Rattle.cfg_recover.specs.Entries.{call_key, irq_key, sys_key, aln_key, call_entry, irq_entry, sys_entry, aln_entry, possible_irqs_of}
use Rattle.depth_cert.specs.Exits.{exit_of_state}
use Rattle.cfg_recover.specs.LocalRules.{targets_of}
use Rattle.store_ranges.specs.Accesses.{are_aligned}

-- One duty, met in this way:
-- - jump: the same node has a point at this address, and its state covers this one
-- - enter: there is a node of this key, and its point at its entry covers the state
-- - resume: if the node of this key has an exit, the same node has a point at this address, and its
--   state covers the one after that exit
-- - leave: the node has an exit, and it covers this one
pub data Duty : Type 0 where
  jump : ℕ → State → Duty
  enter : Key → State → Duty
  resume : Key → ℕ → Duty
  leave : Exit → Duty

-- a duty, and the rule that asks for it
pub record Owed : Type 0 where
  pub rule : ℕ
  pub duty : Duty

-- a duty of a point, with the rule that asks for this duty
abbrev pub owed : ℕ → Duty → Owed
owed rule duty = record { rule = rule; duty = duty }

-- the duty of a point to jump in its frame to the address q with this state (K4)
abbrev pub jump_duty : ℕ → State → Owed
jump_duty q s = owed 4 (jump q s)

-- the duty of a point to enter the frame of this key with this state, by this rule
abbrev pub enter_duty : ℕ → Key → State → Owed
enter_duty rule key s = owed rule (enter key s)

-- the duty of a point to go on at `back` after the frame of this key returns (K4)
abbrev pub resume_duty : Key → ℕ → Owed
resume_duty key back = owed 4 (resume key back)

-- the duty of a point to leave its frame with this exit, by this rule
abbrev pub leave_duty : ℕ → Exit → Owed
leave_duty rule x = owed rule (leave x)

-- the value that a load gets in this state of a point; any word for other instructions
abbrev pub value_loaded_by_shape : Limits → ImageData → PlanData → State → Shape → Val
value_loaded_by_shape b image plan s (Load dst base offset size signed after) =
    load_value_of b image plan (address_of_access b plan (Load dst base offset size signed after) s) size signed
value_loaded_by_shape b image plan s _ = any_val

-- the duties of a point to jump to each of these addresses with this state (K4)
abbrev pub jump_duties_to : State → List ℕ → List Owed
jump_duties_to s targets = map (λ t. owed 4 (jump t s)) targets

-- the duty of a branch to jump to q on one of its sides (K4), in the refined state, as a list;
-- empty if that side isn't possible
abbrev pub branch_duty : ℕ → Option State → List Owed
branch_duty q None = []
branch_duty q (Some s) = owed 4 (jump q s) ∷ []

-- what a point owes by an instruction that goes on to the next one in its frame: the duty to jump
-- there, with the state after this one
abbrev pub next_duty_of : Limits → ImageData → PlanData → ℕ → State → Shape → ℕ → List Owed
next_duty_of b image plan p s shape n = owed 4 (jump (wrapping_sum p n) (transfer_of b plan shape s (value_loaded_by_shape b image plan s shape))) ∷ []

-- the duties of a point to jump to its successors in the same frame (K4), without the one after a
-- call or a system call
abbrev pub successor_duties_of : Limits → ImageData → PlanData → ℕ → State → Shape → ℕ → List Owed
successor_duties_of b image plan p s (Branch cond x y by lowers) n =
    branch_duty (wrapping_sum p n) (refine_of b plan (Branch cond x y by lowers) s false) ++ branch_duty (wrapping_sum p by) (refine_of b plan (Branch cond x y by lowers) s true)
successor_duties_of b image plan p s (Jump to) n = jump_duties_to s (unwrap_or (targets_of plan s p to) [])
successor_duties_of b image plan p s (Call to) n = []
successor_duties_of b image plan p s Ret n = []
successor_duties_of b image plan p s Rfe n = []
successor_duties_of b image plan p s (Syscall tin) n = []
successor_duties_of b image plan p s (Mtcr src number) n = []
successor_duties_of b image plan p s shape n = next_duty_of b image plan p s shape n

-- what a point owes by a call (K5) or system call (K12): to enter this key's frame, and to go on at
-- `back` (K4)
abbrev pub entry_and_return : ℕ → Key → State → ℕ → List Owed
entry_and_return rule key s back = owed rule (enter key s) ∷ owed 4 (resume key back) ∷ []

-- what a point owes by a call or a system call: the entries of the called frames (K5 and K12), and
-- the returns from them
abbrev pub entry_duties_of : PlanData → Key → ℕ → State → Shape → ℕ → List Owed
entry_duties_of plan key p s (Call to) n = flat_map (λ t. entry_and_return 5 (call_key key t) (call_entry s) (wrapping_sum p n)) (unwrap_or (targets_of plan s p to) [])
entry_duties_of plan key p s (Syscall tin) n = entry_and_return 12 (sys_key plan key) (sys_entry plan key s tin) (wrapping_sum p n)
entry_duties_of plan key p s _ n = []

-- a duty of a point, and the rule that asks for it: to enter the handler of misaligned accesses, by
-- K10
abbrev pub misaligned_entry : PlanData → Key → State → Owed
misaligned_entry plan key s = owed 10 (enter (aln_key plan key) (aln_entry plan key s))

-- whether the access of an instruction may be misaligned: some address is no multiple of the size.
-- Only loads and stores have an address.
abbrev pub may_be_misaligned : Limits → PlanData → State → Shape → Bool
may_be_misaligned b plan s (Load dst base offset size signed after) = not (are_aligned (address_of_access b plan (Load dst base offset size signed after) s) size)
may_be_misaligned b plan s (Store src base offset size after) = not (are_aligned (address_of_access b plan (Store src base offset size after) s) size)
may_be_misaligned b plan s _ = false

-- what a point owes by its access: the entry of the handler of misaligned accesses, if the access
-- may be misaligned
abbrev pub misaligned_duties_of : Limits → PlanData → Key → State → Shape → List Owed
misaligned_duties_of b plan key s shape = if may_be_misaligned b plan s shape then misaligned_entry plan key s ∷ [] else []

-- what a point owes by interrupts: the duties to enter the handlers of those that may be taken,
-- which K11 asks for
abbrev pub interrupt_duties_of : PlanData → Key → State → List Owed
interrupt_duties_of plan key s = map (λ p. owed 11 (enter (irq_key plan p) (irq_entry plan key s p))) (possible_irqs_of plan s)

-- what a point owes by leaving its frame: the duty of the exit of a function by RET (K6), or of the
-- handler of system calls by RFE (K7)
abbrev pub exit_duties_of : Key → State → Shape → List Owed
exit_duties_of key s Ret = owed 6 (leave (exit_of_state s)) ∷ []
exit_duties_of key s Rfe = if key.kind == sys_kind then owed 7 (leave (exit_of_state s)) ∷ [] else []
exit_duties_of key s _ = []

-- All that a point of a node with this key owes, by its address p, its state, and the shape and the
-- size of its instruction.
unfoldable pub duties_of : Limits → ImageData → PlanData → Key → ℕ → State → Shape → ℕ → List Owed
duties_of b image plan key p s shape n =
    successor_duties_of b image plan p s shape n ++ entry_duties_of plan key p s shape n ++ misaligned_duties_of b plan key s shape ++ interrupt_duties_of plan key s ++ exit_duties_of key s shape

-- the key of the frame that a point's duty asks to enter, as a list; it is empty for a duty of
-- another kind
abbrev pub keys_entered_by_duty : Duty → List Key
keys_entered_by_duty (enter k t) = k ∷ []
keys_entered_by_duty _ = []

-- the keys of the frames that these duties enter, in the order of the duties
abbrev pub entered_keys : List Owed → List Key
entered_keys ds = flat_map (λ d. keys_entered_by_duty d.duty) ds
