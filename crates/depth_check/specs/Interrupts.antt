-- What the entries of interrupts depend on, and in which states they hold.
use Rattle.std.specs.Prelude.{◌≡◌, ◌≤◌, ◌+◌, ◌-◌, ℕ, true, false, IsTrue, IfSome, List, map, length}
use Rattle.tcd_plan.specs.PlanData.{PlanData}
use Rattle.value_domain.specs.declared.values.Val.{Val}
use Rattle.value_domain.specs.declared.states.State.{State}
use Rattle.value_domain.specs.Values.{IsWellFormed, IsInLattice, IsBelow}
use Rattle.vd_transfer.specs.Registers.{a10_of}
use Rattle.depth_cert.specs.declared.keys.Key.{Key}
use Rattle.depth_cert.specs.Nodes.{NodeData}
use Rattle.depth_cert.specs.Certs.{CertData}
use Rattle.cfg_recover.specs.Entries.{irq_key, state_with_only_a10, possible_irqs_of, handler_entry_sp_from_a10}
use Rattle.cfg_recover.specs.Duties.{Owed, owed, enter, interrupt_duties_of}
use Rattle.cfg_recover.specs.RulesHoldOrFail.{limits_of_cert}
use Rattle.depth_check.specs.declared.last_interrupts.InterruptContext.{InterruptContext}
use Rattle.depth_check.specs.declared.last_interrupts.LastInterrupts.{LastInterrupts}
use Rattle.depth_check.specs.DutiesHold.{DutiesHold}

-- the interrupt context of a state of the node, apart from A10: stack in use, IE, CCPN, and the
-- areas left beside the locals
pub record IsContextExceptSp (context : InterruptContext) (node : NodeData) (s : State) : Type 0 where
  pub is : context.is ≡ (node.key).is
  pub ie : context.ie ≡ s.ie
  pub ccpn : context.ccpn ≡ s.ccpn
  pub spare : context.spare ≡ node.need - length s.locals.items

-- a state of the node has this interrupt context, apart from A10, with no smaller CCPN and no fewer
-- areas left
pub record FitsContextExceptSp (context : InterruptContext) (node : NodeData) (s : State) : Type 0 where
  pub is : context.is ≡ (node.key).is
  pub ie : context.ie ≡ s.ie
  pub ccpn : context.ccpn ≤ s.ccpn
  pub spare : context.spare + length s.locals.items ≤ node.need

-- a state fits the context apart from A10; on the interrupt stack, its A10 is below the context's
pub record FitsContext (context : InterruptContext) (node : NodeData) (s : State) : Type 0 where
  pub like : FitsContextExceptSp context node s
  pub sp : IsTrue context.is → IsBelow (a10_of s) context.sp

-- in a state of the node, all rules hold for the entries of the interrupt handlers
abbrev pub InterruptsHold : PlanData → CertData → NodeData → State → Type 0
InterruptsHold plan cert node s = (q : ℕ) → DutiesHold cert node s (interrupt_duties_of plan node.key s) q

-- the duties to enter the handlers of all interrupts that may be taken in a state, with this A10
-- instead of the state's
abbrev pub interrupt_entries_with_sp : PlanData → Key → State → Val → List Owed
interrupt_entries_with_sp plan key s sp = map (λ p. owed 11 (enter (irq_key plan p) (state_with_only_a10 (handler_entry_sp_from_a10 plan key sp) false p true))) (possible_irqs_of plan s)

-- the context's A10 is a value of the limits, and the entries hold in each state below the context
pub record InterruptsHoldInContext (plan : PlanData) (cert : CertData) (context : InterruptContext) : Type 0 where
  pub sp : IsInLattice (limits_of_cert plan cert) context.sp
  pub holds : (node : NodeData) (s : State) → FitsContext context node s → InterruptsHold plan cert node s

-- in both kept interrupt contexts, the stack pointer is a well-formed value
pub record HasWellFormedSps (kept : LastInterrupts) : Type 0 where
  pub last : IfSome kept.last (λ a. IsWellFormed a.sp)
  pub before : IfSome kept.before (λ a. IsWellFormed a.sp)

-- the handlers' entries hold in both kept interrupt contexts
pub record LastInterruptsHold (plan : PlanData) (cert : CertData) (kept : LastInterrupts) : Type 0 where
  pub last : IfSome kept.last (InterruptsHoldInContext plan cert)
  pub before : IfSome kept.before (InterruptsHoldInContext plan cert)

-- with this A10 instead of the state's, all rules hold for the entries of the interrupt handlers
abbrev pub InterruptsHoldWithSp : PlanData → CertData → NodeData → State → Val → Type 0
InterruptsHoldWithSp plan cert node s sp = (q : ℕ) → DutiesHold cert node s (interrupt_entries_with_sp plan node.key s sp) q
