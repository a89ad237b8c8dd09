-- The frames of a view: the numbers of their keys are in range, and a frame of the switch routine
-- that waits is at the routine's first instruction.
use Rattle.std.proofs.Common.{◌≡◌, ℕ, ◌^◌, ◌<◌, true, cond, List, [], ◌∷◌, Result, Ok, Err, sym, ap, subst, arith}
use Rattle.std.proofs.lemmas.Bool.{cond_both}
use Rattle.tc_isa.specs.declared.shapes.Shape.{Shape}
use Rattle.tc_isa.specs.declared.shapes.Shape.TheVariants.{Compute, Scaled, Load, Store, Branch, Jump, Call, Ret, Rfe, Svlcx, Rslcx, Bisr, Enable, Disable, Syscall, Mfcr, Mtcr, Nothing}
use Rattle.tc_machine.specs.declared.events.Cause.{Cause}
use Rattle.tc_machine.specs.declared.events.Event.{Event}
use Rattle.tc_machine.specs.declared.state.Machine.{Machine}
use Rattle.tc_machine.specs.Instructions.{wrapping_sum, is_trapping_instruction}
use Rattle.tc_machine.specs.Fetching.{fetched_instruction, fetched_size}
use Rattle.tc_machine.specs.Stepping.{is_interrupt_taken, step}
use Rattle.depth_cert.specs.declared.keys.Key.{Key}
use Rattle.depth_cert.specs.Keys.{IsKey}
use Rattle.cfg_recover.specs.Frames.{RunFrame, frames_after_return, frames_after_edge, frames_after_step}
use Rattle.cfg_recover.specs.StepEdges.{EdgeWay, to, call, irq, sys, aln, ret, rfe, edge_way_of_shape, edge_way_in_fetch}
use Rattle.task_chains.specs.Tasks.{TasksData}
use Rattle.task_chains.specs.SwitchRoutine.{switch_key}

-- ---- frames
-- the numbers of each key are in range
abbrev pub AreKeys : List RunFrame → Type 0
AreKeys [] = Unit {0}
AreKeys (f ∷ fs) = IsKey f.key × AreKeys fs

-- each frame of the routine is at its first instruction
abbrev pub AreFirst : TasksData → List RunFrame → Type 0
AreFirst tasks [] = Unit {0}
AreFirst tasks (f ∷ fs) = (f.key ≡ switch_key tasks → f.at ≡ tasks.switch) × AreFirst tasks fs

pub AreFirst-left : (tasks : TasksData) (fs : List RunFrame) → AreFirst tasks fs → AreFirst tasks (frames_after_return fs)
AreFirst-left tasks [] h = tt
AreFirst-left tasks (f ∷ fs) h = h.1

-- if something holds after each case of a step, it holds after the step
pub by_way : (v : Machine) (e : Event) (q : ℕ) (P : EdgeWay → Type 0) → P (to q) → P (call q) → P (irq q) → P (sys q) → P (aln q) → P ret → P rfe → P (cond (is_interrupt_taken v e) (irq q) (edge_way_in_fetch v e (fetched_instruction v) q))
by_way v e q P goes calls interrupts systems misaligns returns leaves = cond_both (is_interrupt_taken v e) (irq q) (edge_way_in_fetch v e (fetched_instruction v) q) P (λ _. interrupts) (λ _. by_found (fetched_instruction v))
  where
    by_shape : (shape : Shape) → P (edge_way_of_shape shape q)
    by_shape (Call x) = calls
    by_shape Ret = returns
    by_shape Rfe = leaves
    by_shape (Syscall tin) = systems
    by_shape (Compute op dst x y) = goes
    by_shape (Scaled dst base index j) = goes
    by_shape (Load dst base offset size signed after) = goes
    by_shape (Store src base offset size after) = goes
    by_shape (Branch test x y by lowers) = goes
    by_shape (Jump target) = goes
    by_shape Svlcx = goes
    by_shape Rslcx = goes
    by_shape (Bisr c) = goes
    by_shape Enable = goes
    by_shape Disable = goes
    by_shape (Mfcr dst number) = goes
    by_shape (Mtcr src number) = goes
    by_shape Nothing = goes

    by_found : (r : Result (Shape × ℕ) Cause) → P (edge_way_in_fetch v e r q)
    by_found (Ok found) = cond_both (is_trapping_instruction v e found.0) (aln q) (edge_way_of_shape found.0 q) P (λ _. misaligns) (λ _. by_shape found.0)
    by_found (Err cause) = goes

-- the numbers of keys are in range after a step
pub keys_next : (v : Machine) (e : Event) (f : RunFrame) (fs : List RunFrame) → AreKeys (f ∷ fs) → e.irq < 2 ^ 8 → (step v e).pc < 2 ^ 32 → AreKeys (frames_after_step v e (f ∷ fs))
keys_next v e f fs keys irq_lt pc_lt =
    let same : IsKey f.key = keys.0 in
    by_way v e (step v e).pc (λ w. AreKeys (frames_after_edge v.pc (wrapping_sum v.pc (fetched_size (fetched_instruction v))) e.irq w (f ∷ fs)))
    keys
    (record { kind = omega arith; entry = pc_lt; prio = same.prio }, keys)
    (record { kind = omega arith; entry = pc_lt; prio = irq_lt }, keys)
    (record { kind = omega arith; entry = pc_lt; prio = same.prio }, keys)
    (record { kind = omega arith; entry = pc_lt; prio = same.prio }, keys)
    keys.1
    keys.1

-- a step from outside of the routine enters it only at the first instruction
pub first_next : (tasks : TasksData) (v : Machine) (e : Event) (f : RunFrame) (fs : List RunFrame) → (f.key ≡ switch_key tasks → ⊥) → AreFirst tasks fs → AreFirst tasks (frames_after_step v e (f ∷ fs))
first_next tasks v e f fs apart first =
    by_way v e (step v e).pc (λ w. AreFirst tasks (frames_after_edge v.pc (wrapping_sum v.pc (fetched_size (fetched_instruction v))) e.irq w (f ∷ fs)))
    (λ is. absurd (apart is), first)
    (λ is. ap (λ (k : Key). k.entry) is, (λ is. absurd (apart is), first))
    (λ is. absurd (let k : 2 ≡ 1 = ap (λ (k : Key). k.kind) is in omega arith), (λ is. absurd (apart is), first))
    (λ is. absurd (let k : 3 ≡ 1 = ap (λ (k : Key). k.kind) is in omega arith), (λ is. absurd (apart is), first))
    (λ is. absurd (let k : 4 ≡ 1 = ap (λ (k : Key). k.kind) is in omega arith), (λ is. absurd (apart is), first))
    first
    first

-- an interrupt enters a handler, and the frame below returns to where it was
pub first_interrupt : (tasks : TasksData) (v : Machine) (e : Event) (f : RunFrame) (fs : List RunFrame) → is_interrupt_taken v e ≡ true → (f.key ≡ switch_key tasks → v.pc ≡ tasks.switch) → AreFirst tasks fs → AreFirst tasks (frames_after_step v e (f ∷ fs))
first_interrupt tasks v e f fs taken at first =
    subst (λ t. AreFirst tasks (frames_after_edge v.pc (wrapping_sum v.pc (fetched_size (fetched_instruction v))) e.irq (cond t (irq (step v e).pc) (edge_way_in_fetch v e (fetched_instruction v) (step v e).pc)) (f ∷ fs))) (sym taken)
    (λ is. absurd (let k : 2 ≡ 1 = ap (λ (k : Key). k.kind) is in omega arith), (at, first))
