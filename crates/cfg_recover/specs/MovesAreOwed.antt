-- What a machine at a point does next, against what the point owes: the statements of the laws.
use Rattle.std.specs.FinMap as map
use Rattle.std.specs.Prelude.{◌≡◌, ◌≢◌, ◌*◌, ◌^◌, ℕ, true, false, if◌then◌else◌, length, bit_or, IfSome, Contains, []}
use Rattle.elf_image.specs.Images.{ImageData}
use Rattle.tcd_plan.specs.PlanData.{PlanData, IsPlan}
use Rattle.tc_isa.specs.declared.shapes.Shape.{Shape}
use Rattle.tc_isa.specs.declared.shapes.Shape.TheVariants.{Syscall, Call, Ret, Rfe, Rslcx, Svlcx, Bisr, Mtcr}
use Rattle.tc_machine.specs.declared.events.Event.{Event}
use Rattle.tc_machine.specs.declared.events.End.TheVariants.{Running}
use Rattle.tc_machine.specs.declared.state.Machine.{Machine}
use Rattle.tc_machine.specs.Machine.{reg, a11, IsMachine}
use Rattle.tc_machine.specs.Instructions.{wrapping_sum, after_instruction, is_trapping_instruction, target_address}
use Rattle.tc_machine.specs.Stepping.{is_interrupt_taken, stored}
use Rattle.tcd_plan.specs.MappedAddresses.{IsInAreas, IsStoreInRange}
use Rattle.tc_machine.specs.Safe.{Fits}
use Rattle.value_domain.specs.declared.states.State.{State}
use Rattle.value_domain.specs.Limits.{Limits, AreLimits}
use Rattle.value_domain.specs.State.{AreInLattice}
use Rattle.vd_transfer.specs.Registers.{reg_of, is_lower_register}
use Rattle.value_domain.specs.Values.{word_val}
use Rattle.vd_transfer.specs.Holding.{Holds}
use Rattle.depth_cert.specs.declared.keys.Key.{Key}
use Rattle.cfg_recover.specs.Code.{IsCode}
use Rattle.cfg_recover.specs.Entries.{irq_key, aln_key, irq_entry, aln_entry, call_key, call_entry}
use Rattle.cfg_recover.specs.LocalRules.{LocalRuleHolds}
use Rattle.cfg_recover.specs.Duties.{owed, jump, enter, resume, duties_of}
use Rattle.tc_mem.specs.PlanMemory.{HoldsRom, IsPlanMemory}
use Rattle.tc_isa.specs.declared.shapes.Target.{Target}

-- the state holds the machine: its registers, IE and CCPN
abbrev pub IsInState : PlanData → Machine → State → Type 0
IsInState plan m s = Holds plan (reg m) m.ie m.ccpn s

-- A running machine at a point. Its memory is the plan's, with the image's bytes in rom. At pc
-- there is an instruction of this shape and size that breaks no rule by itself. The point's state
-- holds the machine.
pub record IsAtPoint (b : Limits) (image : ImageData) (plan : PlanData) (key : Key) (m : Machine) (s : State) (shape : Shape) (n : ℕ) : Type 0 where
  pub limits : AreLimits b
  pub is_plan : IsPlan plan
  pub machine : IsMachine m
  pub running : m.end ≡ Running
  pub memory : IsPlanMemory plan m.mem
  pub rom : HoldsRom image plan m.mem
  pub code : IsCode image plan m.pc shape n
  pub own : (r : ℕ) → LocalRuleHolds b plan key m.pc s shape r
  pub regs : length s.regs ≡ 27
  pub values : AreInLattice b s.regs
  pub inside : IsInState plan m s

-- a move in a frame, from machine m and state s to n and t: save areas, context list, PSW and A11
-- stay; lower registers too, if t says that they are the entry's
pub record MovesTo (image : ImageData) (plan : PlanData) (m n : Machine) (s t : State) : Type 0 where
  pub inside : IsInState plan n t
  pub lower : t.lower ≡ true → (s.lower ≡ true) × ((r : ℕ) → is_lower_register r ≡ true → reg n r ≡ reg m r)
  pub locals : t.locals.items ≡ s.locals.items
  pub a11 : a11 n ≡ a11 m
  pub psw : n.psw ≡ m.psw
  pub pcxi : n.pcxi ≡ m.pcxi
  pub fcx : n.fcx ≡ m.fcx
  pub lcx : n.lcx ≡ m.lcx
  pub biv : n.biv ≡ m.biv
  pub btv : n.btv ≡ m.btv
  pub isp : n.isp ≡ m.isp
  pub core : n.core ≡ m.core
  pub end : n.end ≡ Running
  pub areas : (x : ℕ) → IsInAreas plan x → map.get n.mem x ≡ map.get m.mem x
  pub rom : HoldsRom image plan n.mem
  pub memory : IsPlanMemory plan n.mem

-- A step inside a frame goes where the point owes a jump, and the jump's state holds the machine
-- then.
pub record IsMoveOwed (b : Limits) (image : ImageData) (plan : PlanData) (key : Key) (m : Machine) (e : Event) (s : State) (shape : Shape) (n : ℕ) : Type 0 where
  pub state : State
  pub owes : Contains (duties_of b image plan key m.pc s shape n) (owed 4 (jump (after_instruction m e shape n).pc state))
  pub moves : MovesTo image plan m (after_instruction m e shape n) s state

-- an instruction of this shape makes a move that is owed as a jump: it stays in its frame, and
-- keeps the contexts as they are
abbrev pub KeepsFrameAndContexts : Shape → Type 0
KeepsFrameAndContexts (Call target) = ⊥
KeepsFrameAndContexts Ret = ⊥
KeepsFrameAndContexts Rfe = ⊥
KeepsFrameAndContexts Svlcx = ⊥
KeepsFrameAndContexts Rslcx = ⊥
KeepsFrameAndContexts (Bisr c) = ⊥
KeepsFrameAndContexts (Syscall tin) = ⊥
KeepsFrameAndContexts (Mtcr src number) = ⊥
KeepsFrameAndContexts _ = Unit {0}

-- a law of moves: each step inside a frame, without an interrupt or a trap, is a jump that the
-- point owes
abbrev pub JumpsAreOwed : Type 0
JumpsAreOwed =
    (b : Limits) (image : ImageData) (plan : PlanData) (key : Key) (m : Machine) (e : Event) (s : State) (shape : Shape) (n : ℕ)
    → IsAtPoint b image plan key m s shape n → Fits plan m e → is_interrupt_taken m e ≡ false → KeepsFrameAndContexts shape → is_trapping_instruction m e shape ≡ false
    → IsMoveOwed b image plan key m e s shape n

-- a law of moves: each point whose access traps owes the entry of the handler of misaligned
-- accesses
abbrev pub TrapsAreOwed : Type 0
TrapsAreOwed =
    (b : Limits) (image : ImageData) (plan : PlanData) (key : Key) (m : Machine) (e : Event) (s : State) (shape : Shape) (n : ℕ)
    → IsAtPoint b image plan key m s shape n → is_trapping_instruction m e shape ≡ true
    → Contains (duties_of b image plan key m.pc s shape n) (owed 10 (enter (aln_key plan key) (aln_entry plan key s)))

-- the key of the handler to which a machine moves by a system call: its entry is BTV with class 6
-- in bits 7:5, its priority the calling frame's, and it runs on the interrupt stack
abbrev pub owed_sys_key : PlanData → Key → Key
owed_sys_key plan key = record { kind = 3; entry = bit_or plan.btv (6 * 2 ^ 5); prio = key.prio; is = true }

-- a law of moves: a point with a system call owes the entry of its handler (K12), where D15, A10,
-- IE, `lower` and the locals are set and the rest stays, and the return (K4)
pub record IsSystemCallOwed (b : Limits) (image : ImageData) (plan : PlanData) (key : Key) (m : Machine) (s : State) (tin n : ℕ) : Type 0 where
  pub state : State
  pub entered : Contains (duties_of b image plan key m.pc s (Syscall tin) n) (owed 12 (enter (owed_sys_key plan key) state))
  pub back : Contains (duties_of b image plan key m.pc s (Syscall tin) n) (owed 4 (resume (owed_sys_key plan key) (wrapping_sum m.pc n)))
  pub number : reg_of plan state 15 ≡ word_val tin
  pub stack : reg_of plan state 26 ≡ (if key.is then reg_of plan s 26 else word_val plan.isp)
  pub others : (r : ℕ) → r ≢ 15 → r ≢ 26 → reg_of plan state r ≡ reg_of plan s r
  pub enabled : state.ie ≡ false
  pub priority : state.ccpn ≡ s.ccpn
  pub lower : state.lower ≡ false
  pub locals : state.locals.items ≡ []

-- a law of moves: each point where an interrupt is taken owes the entry of its handler
abbrev pub InterruptsAreOwed : Type 0
InterruptsAreOwed =
    (b : Limits) (image : ImageData) (plan : PlanData) (key : Key) (m : Machine) (e : Event) (s : State) (shape : Shape) (n : ℕ)
    → IsAtPoint b image plan key m s shape n → Fits plan m e → is_interrupt_taken m e ≡ true
    → Contains (duties_of b image plan key m.pc s shape n) (owed 11 (enter (irq_key plan e.irq) (irq_entry plan key s e.irq)))

-- a law of moves: whatever a machine at a point stores in its next step is in range
abbrev pub PointStoresAreInRange : Type 0
PointStoresAreInRange =
    (b : Limits) (image : ImageData) (plan : PlanData) (key : Key) (m : Machine) (e : Event) (s : State) (shape : Shape) (n : ℕ)
    → IsAtPoint b image plan key m s shape n → IfSome (stored m e) (IsStoreInRange plan)

-- a law of moves at one call: the point owes the entry of the called function (K5), and the return
-- (K4)
pub record IsCallOwed (b : Limits) (image : ImageData) (plan : PlanData) (key : Key) (m : Machine) (s : State) (to : Target) (n : ℕ) : Type 0 where
  pub entered : Contains (duties_of b image plan key m.pc s (Call to) n) (owed 5 (enter (call_key key (target_address m to)) (call_entry s)))
  pub back : Contains (duties_of b image plan key m.pc s (Call to) n) (owed 4 (resume (call_key key (target_address m to)) (wrapping_sum m.pc n)))

-- a law of moves: each point with a call owes the entry where the machine goes, and the return
abbrev pub CallsAreOwed : Type 0
CallsAreOwed =
    (b : Limits) (image : ImageData) (plan : PlanData) (key : Key) (m : Machine) (s : State) (to : Target) (n : ℕ)
    → IsAtPoint b image plan key m s (Call to) n → IsCallOwed b image plan key m s to n

-- a law of moves: each point with a system call owes the handler's entry, and the return
abbrev pub SystemCallsAreOwed : Type 0
SystemCallsAreOwed =
    (b : Limits) (image : ImageData) (plan : PlanData) (key : Key) (m : Machine) (s : State) (tin n : ℕ)
    → IsAtPoint b image plan key m s (Syscall tin) n → IsSystemCallOwed b image plan key m s tin n
