-- The handlers of interrupts: the contexts in which their entries are covered, and the numbers of
-- their frames.
use Rattle.std.specs.Prelude.{◌≡◌, ◌<◌, ◌≤◌, ℕ, Bool, true, false, IsTrue, if◌then◌else◌, Option, IfSome, Contains, List, map, filter, nat_lt, Some, []}
use Rattle.tcd_plan.specs.PlanData.{PlanData}
use Rattle.value_domain.specs.declared.values.Val.{Val}
use Rattle.value_domain.specs.declared.states.State.{State}
use Rattle.value_domain.specs.Limits.{Limits}
use Rattle.vd_transfer.specs.Registers.{a10_of}
use Rattle.value_domain.specs.Values.{join_of, IsBelow, IsInLattice, word_val}
use Rattle.depth_cert.specs.Known.{state}
use Rattle.depth_cert.specs.WellFormed.{IsWellFormedState}
use Rattle.cfg_recover.specs.Assignments.{Assignment, AssignmentCovers, point}
use Rattle.cfg_recover.specs.Entries.{state_with_only_a10, irq_key}
use Rattle.depth_maker.specs.declared.interrupt_contexts.InterruptContext.{InterruptContext}
use Rattle.depth_maker.specs.declared.interrupt_contexts.LastInterrupts.{LastInterrupts}
use Rattle.indexmap.specs.IndexMap.{IndexMap}
use Rattle.depth_cert.specs.declared.keys.Key.{Key}
use Rattle.frame_places.specs.Numbers.{AreFrameNumbers, frame_number_in}
use Rattle.depth_maker.specs.declared.interrupt_handlers.Handler.{Handler}
use Rattle.depth_maker.specs.declared.table.Table as made

-- the value of A10 at the entries of the interrupt handlers, from a context that the maker caches
abbrev pub context_sp : PlanData → InterruptContext → Val
context_sp plan h = if h.is then h.sp else word_val plan.isp

-- the interrupt handler of priority p has its entry covered in the assignment, as it is entered
-- from the cached context
pub record IsHandlerCovered (b : Limits) (plan : PlanData) (a : Assignment) (h : InterruptContext) (p : ℕ) : Type 0 where
  pub well_formed : IsWellFormedState b (state_with_only_a10 (context_sp plan h) false p true)
  pub covers : AssignmentCovers a (point (irq_key plan p) (irq_key plan p).entry) (state (state_with_only_a10 (context_sp plan h) false p true))

-- all interrupt handlers above the cached context's priority have their entries covered in the
-- assignment
pub record AreHandlersCovered (b : Limits) (plan : PlanData) (a : Assignment) (h : InterruptContext) : Type 0 where
  pub stack : IsInLattice b h.sp
  pub each : (p : ℕ) → Contains plan.irqs p → h.ccpn < p → IsHandlerCovered b plan a h p

-- the handlers' entries are covered in a cached interrupt context; nothing is said without one
abbrev pub IsContextCovered : Limits → PlanData → Assignment → Option InterruptContext → Type 0
IsContextCovered b plan a interrupts = IfSome interrupts (AreHandlersCovered b plan a)

-- the handlers' entries are covered in both interrupt contexts that the maker's table caches
abbrev pub AreContextsCovered : Limits → PlanData → Assignment → LastInterrupts → Type 0
AreContextsCovered b plan a interrupts = IsContextCovered b plan a interrupts.last × IsContextCovered b plan a interrupts.before

-- the interrupt context of a frame with this state, on the interrupt stack if `inner`: that stack,
-- A10 and CCPN
pub record IsContextOf (h : InterruptContext) (inner : Bool) (s : State) : Type 0 where
  pub same : h.is ≡ inner
  pub sp : h.sp ≡ a10_of s
  pub ccpn : h.ccpn ≡ s.ccpn

-- the cached interrupt context differs from that of a frame with this state at most in the stack
-- pointer A10
pub record IsEqualExceptSp (h : InterruptContext) (inner : Bool) (s : State) : Type 0 where
  pub same : h.is ≡ inner
  pub ccpn : h.ccpn ≡ s.ccpn

-- the cached interrupt context h with its A10 joined with the value v
abbrev pub joined_context : Limits → InterruptContext → Val → InterruptContext
joined_context b h v = record h { sp = join_of b h.sp v }

-- a frame with this state enters handlers only in states that the cached context covers: CCPN no
-- lower, A10 below on the interrupt stack
pub record IsWithinContext (h : InterruptContext) (inner : Bool) (s : State) : Type 0 where
  pub same : h.is ≡ inner
  pub above : h.ccpn ≤ s.ccpn
  pub below : IsTrue h.is → IsBelow (a10_of s) h.sp

-- the maker's list of interrupt handlers: each has its interrupt's priority, and its frame's number
-- if the frame is one of these
pub record AreHandlersOfIrqs (plan : PlanData) (frames : List Key) (irqs : List ℕ) (handlers : List Handler) : Type 0 where
  pub priorities : map (λ h. h.prio) handlers ≡ irqs
  pub each : (h : Handler) → Contains handlers h → Contains frames (irq_key plan h.prio) → h.node ≡ frame_number_in frames (irq_key plan h.prio)

-- of the handlers' frames, by their numbers, those whose interrupts have priorities above this one
abbrev pub handler_nodes_above : ℕ → List Handler → List ℕ
handler_nodes_above m handlers = map (λ h. h.node) (filter (λ h. nat_lt m h.prio) handlers)

-- the frame numbers of the interrupt handlers that may be entered: those above a priority if IE is
-- on, else none
abbrev pub handler_nodes_if_enabled : Bool → ℕ → List Handler → List ℕ
handler_nodes_if_enabled ie m handlers = if ie then handler_nodes_above m handlers else []

-- the map numbers these frames, and the list has the handlers of all interrupts of the plan with
-- their frames' numbers
pub record AreNumberedHandlers {S : Type 0} (plan : PlanData) (numbers : IndexMap Key ℕ S) (handlers : List Handler) (frames : List Key) : Type 0 where
  pub all : AreFrameNumbers numbers frames frames
  pub taken : AreHandlersOfIrqs plan frames plan.irqs handlers

-- the last cached interrupt context covers the handlers' entries from each frame with this CCPN, on
-- this stack
pub record HasCoveringContextForCcpn (t : made.Table) (is : Bool) (ccpn : ℕ) : Type 0 where
  pub context : InterruptContext
  pub last : (t.covered).interrupts.last ≡ Some context
  pub within : (s : State) → s.ccpn ≡ ccpn → IsWithinContext context is s
