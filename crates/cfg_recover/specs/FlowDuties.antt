-- The duties in a Flow.
use Rattle.std.specs.Prelude.{◌≡◌, ◌==◌, ℕ, if◌then◌else◌, List, ◌∷◌, ◌++◌, map, Option, Some, None, []}
use Rattle.std.specs.List.{flat_map}
use Rattle.depth_cert.specs.Keys.{call_kind, sys_kind}
use Rattle.elf_image.specs.Images.{ImageData}
use Rattle.tcd_plan.specs.PlanData.{PlanData}
use Rattle.tc_isa.specs.declared.shapes.Shape.{Shape}
use Rattle.tc_isa.specs.declared.shapes.Shape.TheVariants as shape
use Rattle.value_domain.specs.declared.states.State.{State}
use Rattle.value_domain.specs.Limits.{Limits}
use Rattle.depth_cert.specs.declared.keys.Key.{Key}
use Rattle.cfg_recover.specs.declared.flow_types.Jump.{Jump}
use Rattle.cfg_recover.specs.declared.flow_types.Enter.{Enter}
use Rattle.cfg_recover.specs.declared.flow_types.Leave.{Leave}
use Rattle.cfg_recover.specs.declared.flow_types.Leave.TheVariants.{Stays, Ret, Rfe}
use Rattle.cfg_recover.specs.declared.flow_types.Flow.{Flow}
use Rattle.cfg_recover.specs.Code.{IsCode}
use Rattle.cfg_recover.specs.Entries.{irq_key, irq_entry, entered_key}
use Rattle.depth_cert.specs.Exits.{exit_of_state}
use Rattle.cfg_recover.specs.LocalFaults.{IsFaultless}
use Rattle.cfg_recover.specs.Duties.{Owed, owed, enter, resume, leave, jump_duties_to, duties_of}

-- the duties of a jump in a Flow: one for each target
abbrev pub duties_of_jump : Option Jump → List Owed
duties_of_jump None = []
duties_of_jump (Some j) = jump_duties_to j.state j.targets.items

-- the duties of all jumps in a Flow
abbrev pub duties_of_jumps : List (Option Jump) → List Owed
duties_of_jumps jumps = flat_map duties_of_jump jumps

-- the duty to go on at q after the return of this key's frame (K4), if that may return
abbrev pub duties_of_flow_return : Key → Option ℕ → List Owed
duties_of_flow_return key None = []
duties_of_flow_return key (Some q) = owed 4 (resume key q) ∷ []

-- the duties of an entry in a Flow: this rule asks for the entry at each target, K4 for going on
-- after the return
abbrev pub duties_of_entry : ℕ → Key → Option Enter → List Owed
duties_of_entry rule key None = []
duties_of_entry rule key (Some e) =
    flat_map (λ t. owed rule (enter (entered_key key e.kind t) e.state) ∷ duties_of_flow_return (entered_key key e.kind t) e.resume) e.targets.items

-- the rule that asks for an entry in a Flow: K5 for calls, K12 for a system call
abbrev pub rule_of_entry : Option Enter → ℕ
rule_of_entry None = 5
rule_of_entry (Some e) = if e.kind == call_kind then 5 else 12

-- the duties of a Flow's entry by a call (K5) or a system call (K12)
abbrev pub duties_of_call_entry : Key → Option Enter → List Owed
duties_of_call_entry key e = duties_of_entry (rule_of_entry e) key e

-- the duties of a Flow's entry of the handler of misaligned accesses (K10)
abbrev pub duties_of_misaligned_entry : Key → Option Enter → List Owed
duties_of_misaligned_entry key e = duties_of_entry 10 key e

-- the duties by the interrupts of a Flow: each handler is entered with this state, in which CCPN is
-- the interrupt's priority
abbrev pub duties_of_irqs : PlanData → State → List ℕ → List Owed
duties_of_irqs plan entry irqs = map (λ p. owed 11 (enter (irq_key plan p) (record entry { ccpn = p }))) irqs

-- the duty in a Flow by how the frame is left, as a list: the exit of a function by RET (K6), or of
-- the handler of system calls by RFE (K7); otherwise it is empty
abbrev pub duties_of_leaving : Key → State → Leave → List Owed
duties_of_leaving key s Stays = []
duties_of_leaving key s Ret = owed 6 (leave (exit_of_state s)) ∷ []
duties_of_leaving key s Rfe = if key.kind == sys_kind then owed 7 (leave (exit_of_state s)) ∷ [] else []

-- the duties of a point with this key and state, as the Flow has them
abbrev pub duties_of_flow : PlanData → Key → State → Flow → List Owed
duties_of_flow plan key s f =
    duties_of_jumps f.jumps ++ duties_of_call_entry key f.enter ++ duties_of_misaligned_entry key f.aln ++ duties_of_irqs plan f.irq_entry f.irqs.items ++ duties_of_leaving key s f.leave

-- how an instruction of this shape leaves its frame: by RET, by RFE, or not at all
unfoldable pub flow_leave_of : Shape → Leave
flow_leave_of shape.Ret = Ret
flow_leave_of shape.Rfe = Rfe
flow_leave_of _ = Stays

-- The Flow of a point at which no rule's own part fails. It has the point's duties, the state at an
-- interrupt's entry except its CCPN, and how the frame is left.
pub record FlowHasDuties (b : Limits) (image : ImageData) (plan : PlanData) (key : Key) (p : ℕ) (s : State) (f : Flow) : Type 0 where
  pub faultless : IsFaultless b image plan key p s
  pub shape : Shape
  pub size : ℕ
  pub code : IsCode image plan p shape size
  pub told : duties_of_flow plan key s f ≡ duties_of b image plan key p s shape size
  pub entry : f.irq_entry ≡ irq_entry plan key s 0
  pub leaves : f.leave ≡ flow_leave_of shape

-- law of a Flow that has a point's duties: they are those of the instruction that is there
abbrev pub FlowDutiesAreOfCode : Type 0
FlowDutiesAreOfCode =
    (b : Limits) (image : ImageData) (plan : PlanData) (key : Key) (p : ℕ) (s : State) (f : Flow) (i : Shape) (size : ℕ) → FlowHasDuties b image plan key p s f
    → IsCode image plan p i size → duties_of_flow plan key s f ≡ duties_of b image plan key p s i size
