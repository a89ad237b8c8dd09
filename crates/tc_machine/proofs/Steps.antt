-- Laws of single steps: what an event of a running machine does, and what some instructions do.
use Rattle.std.proofs.Common.{◌≡◌, ℕ, ◌/◌, ◌*◌, true, false, cond, set, Result, Ok, None, refl, ap, ◌∙◌}
use Rattle.tc_isa.specs.declared.shapes.Target.{Target}
use Rattle.tc_isa.specs.declared.shapes.Shape.{Shape}
use Rattle.tc_isa.specs.declared.shapes.Shape.TheVariants.{Call, Ret, Nothing}
use Rattle.tc_machine.specs.declared.events.Cause.{Cause}
use Rattle.tc_machine.specs.declared.events.Event.{Event}
use Rattle.tc_machine.specs.declared.events.End.TheVariants.{Running}
use Rattle.tc_machine.specs.declared.state.Machine.{Machine}
use Rattle.tc_machine.specs.Machine.{a11, if_running, psw_with_status}
use Rattle.tc_machine.specs.Instructions.{wrapping_sum, with_pc_advanced, target_address, after_instruction}
use Rattle.tc_machine.specs.Stepping.{is_interrupt_taken, after_fetch_result, machine_after_event, step, store_of_fetched, none_if_dead, stored}
use Rattle.tc_machine.specs.Handlers.{after_interrupt}
use Rattle.tc_machine.specs.SavesAndRestores.{save, restore}
use Rattle.tc_machine.specs.Fetching.{fetched_instruction}
use Rattle.tc_machine.proofs.Saves.{then_-running}

-- if no interrupt is taken, the instruction at pc is executed
pub done-is : (m : Machine) (e : Event) (shape : Shape) (n : ℕ) → is_interrupt_taken m e ≡ false → fetched_instruction m ≡ Ok (shape, n) → machine_after_event m e ≡ after_instruction m e shape n
done-is m e shape n none at = ap (λ t. cond t (after_interrupt m e.irq) (after_fetch_result m e (fetched_instruction m))) none ∙ ap (after_fetch_result m e) at

-- the machine after an event that left it running
abbrev pub with_event : Machine → Event → Machine
with_event n e = record n { psw = psw_with_status n.psw e.status }

pub step-is : (m : Machine) (e : Event) → m.end ≡ Running → (machine_after_event m e).end ≡ Running → step m e ≡ with_event (machine_after_event m e) e
unfolding step
step-is m e here after =
    then_-running m (λ m. if_running (machine_after_event m e) (λ n. with_event n e)) here ∙ then_-running (machine_after_event m e) (λ n. with_event n e) after

pub step_does : (m : Machine) (e : Event) (shape : Shape) (n : ℕ) → m.end ≡ Running → is_interrupt_taken m e ≡ false → fetched_instruction m ≡ Ok (shape, n) → (after_instruction m e shape n).end ≡ Running → step m e ≡ with_event (after_instruction m e shape n) e
step_does m e shape n here none at after =
    let is = done-is m e shape n none at in
    step-is m e here (ap (λ r. r.end) is ∙ after) ∙ ap (λ r. with_event r e) is

-- what stores is the instruction at pc, if the machine runs and no interrupt is taken
pub stored-is : (m : Machine) (e : Event) (found : Result (Shape × ℕ) Cause) → m.end ≡ Running → is_interrupt_taken m e ≡ false → fetched_instruction m ≡ found → stored m e ≡ store_of_fetched m e found
unfolding stored
stored-is m e found here none at =
    ap (λ end. none_if_dead end (cond (is_interrupt_taken m e) None (store_of_fetched m e (fetched_instruction m)))) here
    ∙ ap (λ t. cond t None (store_of_fetched m e (fetched_instruction m))) none ∙ ap (store_of_fetched m e) at

-- ---- instructions
abbrev pub called : Machine → ℕ → ℕ → Machine
called m to back = if_running (save m true) (λ s. record s { a = set s.a 11 back; pc = to })

abbrev pub returned : Machine → Machine
returned m = if_running (restore m true) (λ r. record r { pc = a11 m / 2 * 2 })

pub does-call : (m : Machine) (e : Event) (to : Target) (n : ℕ) → after_instruction m e (Call to) n ≡ called m (target_address m to) (wrapping_sum m.pc n)
unfolding after_instruction
does-call m e to n = refl

pub does-ret : (m : Machine) (e : Event) (n : ℕ) → after_instruction m e Ret n ≡ returned m
unfolding after_instruction
does-ret m e n = refl

pub does-nothing : (m : Machine) (e : Event) (n : ℕ) → after_instruction m e Nothing n ≡ with_pc_advanced n m
unfolding after_instruction
does-nothing m e n = refl
