-- An event of all tasks while the running task is outside of the routine, or at its first two
-- instructions.
use Rattle.std.proofs.Common.{◌≡◌, ◌≢◌, ℕ, ◌+◌, ◌-◌, ◌*◌, ◌%◌, ◌^◌, ◌<◌, ◌≤◌, inl, inr, true, false, cond, List, ◌∷◌, Some, None, Ok, Result, refl, sym, ap, ◌∙◌, subst, arith}
use Rattle.std.proofs.lemmas.Bool.{cases_lt, cases_Bool}
use Rattle.csa_chain.specs.MemoryBytes.{Memory}
use Rattle.elf_image.specs.Images.{ImageData, image_byte}
use Rattle.tcd_plan.specs.PlanData.{PlanData}
use Rattle.tcd_plan.specs.MappedAddresses.{IsInAreas, IsStoreInRange}
use Rattle.tcd_plan.proofs.ApartLaws.{rom_fits}
use Rattle.tc_isa.specs.declared.shapes.Shape.{Shape}
use Rattle.tc_isa.specs.declared.shapes.Shape.TheVariants.{Store, Svlcx, Disable}
use Rattle.tc_machine.specs.declared.events.Cause.{Cause}
use Rattle.tc_machine.specs.declared.events.Event.{Event}
use Rattle.tc_machine.specs.declared.events.End.TheVariants.{Running, Dead}
use Rattle.tc_machine.specs.declared.state.Machine.{Machine}
use Rattle.tc_machine.specs.Machine.{reg}
use Rattle.tc_machine.specs.Instructions.{wrapping_sum, with_pc_advanced, access_address, is_trapping_access, after_instruction}
use Rattle.tc_machine.specs.SavesAndRestores.{save}
use Rattle.tc_machine.specs.Fetching.{fetched_instruction, fetched_size}
use Rattle.std.specs.Prelude.{IfSome}
use Rattle.tc_machine.specs.declared.events.End.{End}
use Rattle.tc_machine.specs.Stepping.{is_interrupt_taken, none_if_dead, store_of_fetched, stored, step}
use Rattle.tc_machine.specs.Safe.{Fits}
use Rattle.tc_machine.proofs.Kept.{none_when_off}
use Rattle.tc_machine.proofs.Saves.{then_-running}
use Rattle.tc_machine.proofs.Steps.{with_event, done-is, step_does, stored-is}
use Rattle.cfg_recover.proofs.Points.{does-svlcx}
use Rattle.task_chains.proofs.CoreKept.{save_place}
use Rattle.value_domain.specs.Limits.{Limits}
use Rattle.depth_cert.specs.Certs.{CertData}
use Rattle.cfg_recover.specs.RulesHoldOrFail.{limits_of_cert}
use Rattle.cfg_recover.specs.Code.{IsCode, HasCode}
use Rattle.cfg_recover.specs.Frames.{RunFrame, frames_after_return, frames_after_edge, frames_after_step}
use Rattle.cfg_recover.specs.StepEdges.{to, irq, edge_way_by_trap, edge_way_in_fetch}
use Rattle.cfg_recover.proofs.CodeLaws.{IsCode-bounded, IsCode-one, IsCode-sized}
use Rattle.task_chains.specs.Tasks.{TasksData, count}
use Rattle.task_chains.specs.SwitchRoutine.{routine_size, IsInRoutine}
use Rattle.task_chains.specs.Views.{view_image_of, view_plan_of}
use Rattle.task_chains.specs.TaskStarts.{block_word, current_task}
use Rattle.task_chains.specs.SafeTasks.{IsAllowedTaskStore}
use Rattle.task_chains.proofs.Alike.{seen_as, Alike}
use Rattle.task_chains.proofs.FramesKept.{AreFirst, AreFirst-left, first_next, first_interrupt}
use Rattle.task_chains.proofs.Invariant.{ViewOf, Turn, runs, switches, AllKept}
use Rattle.task_chains.proofs.Joined.{World, in_or_out, block_same, kept, view_few, view_ok, both, runs_too, own_room, room_for_all, view_after, paused_after, all_after}
use Rattle.task_chains.proofs.Outside.{Both, AtPoint, event_for, HasCodeOf, same_code, fetched_code, StoreIs, dead≢running, done_runs, interrupt_step, outside_step}
use Rattle.task_chains.proofs.Plain.{address-same}
use Rattle.task_chains.proofs.Reached.{PointOf}
use Rattle.task_chains.proofs.RoutineCode.{view_code_0, view_code_1, first_bytes}
use Rattle.task_chains.proofs.Switch.{Paused}
use Rattle.task_chains.proofs.ViewEvents.{IsKept, size_some, fits_interrupt, view_fits, view_store_gone, store_keeps}
use Rattle.task_chains.proofs.ViewImage.{view_byte_outside}
use Rattle.task_chains.proofs.ViewPlan.{view_store}
use Rattle.task_chains.proofs.ViewRun.{NextRun, view_point, view_out_of_routine, view_enters, view_fetched, view_at_point, view_run_interrupt, view_run_step}

-- all tasks are kept, whoever owns PCXI
pub record Goes (image : ImageData) (plan : PlanData) (tasks : TasksData) (needs : ℕ → ℕ) (m : Machine) : Type 0 where
  pub owner : ℕ
  pub words : ℕ → ℕ
  pub chains : ℕ → List ℕ
  pub kept : AllKept image plan tasks needs m owner words chains

-- the code under a view's plan is that under the plan, which has the same rom
pub code_of : (image : ImageData) (plan : PlanData) (tasks : TasksData) (u p : ℕ) (shape : Shape) (size : ℕ) → IsCode image (view_plan_of plan tasks u) p shape size → IsCode image plan p shape size
code_of image plan tasks u p shape size c = record { even = c.even; bytes = c.bytes; inst = c.inst; spells = record { spelled = c.spells.spelled; in_rom = c.spells.in_rom; held = c.spells.held }; shaped = c.shaped; sized = c.sized }

pub code_to : (image : ImageData) (plan : PlanData) (tasks : TasksData) (u p : ℕ) (shape : Shape) (size : ℕ) → IsCode image plan p shape size → IsCode image (view_plan_of plan tasks u) p shape size
code_to image plan tasks u p shape size c = record { even = c.even; bytes = c.bytes; inst = c.inst; spells = record { spelled = c.spells.spelled; in_rom = c.spells.in_rom; held = c.spells.held }; shaped = c.shaped; sized = c.sized }

-- an instruction that stays in its frame leaves the older frames as they are
pub first_stays : (tasks : TasksData) (v : Machine) (e : Event) (f : RunFrame) (fs : List RunFrame) (shape : Shape) (size : ℕ) → is_interrupt_taken v e ≡ false → fetched_instruction v ≡ Ok (shape, size) → edge_way_by_trap v e shape (step v e).pc ≡ to (step v e).pc → AreFirst tasks fs
    → AreFirst tasks (frames_after_return (frames_after_step v e (f ∷ fs)))
first_stays tasks v e f fs shape size none at is first =
    let q = (step v e).pc in
    let way : cond (is_interrupt_taken v e) (irq q) (edge_way_in_fetch v e (fetched_instruction v) q) ≡ to q = ap (λ t. cond t (irq q) (edge_way_in_fetch v e (fetched_instruction v) q)) none ∙ ap (λ (r : Result (Shape × ℕ) Cause). edge_way_in_fetch v e r q) at ∙ is in
    subst (λ w. AreFirst tasks (frames_after_return (frames_after_edge v.pc (wrapping_sum v.pc (fetched_size (fetched_instruction v))) e.irq w (f ∷ fs)))) (sym way) first

disable_is : (m : Machine) (e : Event) → after_instruction m e Disable 4 ≡ record (with_pc_advanced 4 m) { ie = false }
unfolding after_instruction
disable_is m e = refl

module _ {image : ImageData} {plan : PlanData} {tasks : TasksData} {certs : ℕ → CertData} {needs : ℕ → ℕ} (wd : World image plan tasks certs needs) (m : Machine) {u : ℕ} {word_of : ℕ → ℕ} {chain_of : ℕ → List ℕ} (k : AllKept image plan tasks needs m u word_of chain_of)
    (mem : Memory) (pcxi fcx : ℕ) (seen : List ℕ) (of : ViewOf image plan tasks u m.mem (seen_as m mem pcxi fcx)) (paused : Paused plan m.mem m.pcxi (chain_of u) seen m.lcx mem pcxi fcx) (here_now : current_task tasks m.mem ≡ u) (e : Event) (fits : Fits plan m e) where
  abbrev v : Machine
  v = seen_as m mem pcxi fcx

  abbrev view : ImageData
  view = view_image_of image tasks u

  abbrev plan2 : PlanData
  plan2 = view_plan_of plan tasks u

  abbrev own : u < count tasks
  own = (k.shared).own

  abbrev limits : Limits
  limits = limits_of_cert (view_plan_of plan tasks u) (certs u)

  abbrev b : Both image (view_image_of image tasks u) plan tasks (count tasks) u word_of chain_of seen m mem pcxi fcx
  b = both wd m k mem pcxi fcx seen of paused e

  abbrev p : PointOf (view_plan_of plan tasks u) (view_image_of image tasks u) (certs u) tasks (seen_as m mem pcxi fcx) ((of.run).frame).key
  p = view_point wd.ok wd.are wd.fit own (certs u) (wd.judged u own) (view_few wd u own) (seen_as m mem pcxi fcx) of.run

  is_kept : (x : ℕ) → IsKept plan tasks x → IsInAreas plan x → ⊥
  is_kept = kept wd.ok wd.fit

  -- the task is still the current one
  module _ (e2 : Event) (fits2 : Fits (view_plan_of plan tasks u) (seen_as m mem pcxi fcx) e2) (a : Alike plan (count tasks) u word_of chain_of (IsKept plan tasks) mem m (step m e) (step (seen_as m mem pcxi fcx) e2))
      (next : NextRun image plan tasks u (step (seen_as m mem pcxi fcx) e2) (frames_after_step (seen_as m mem pcxi fcx) e2 ((of.run).frame ∷ (of.run).behind))) where
    still_now : current_task tasks (step m e).mem ≡ u
    still_now = block_same tasks m.mem (step m e).mem (λ x low high. a.outside x (inr (low, high))) (count tasks) (omega arith) ∙ here_now

    others_blocks : (w : ℕ) → w < count tasks → w ≢ u → block_word tasks (step m e).mem w ≡ block_word tasks m.mem w
    others_blocks w lt apart = block_same tasks m.mem (step m e).mem (λ x low high. a.outside x (inr (low, high))) w (omega arith)

    to_turn : Turn image plan tasks u a.words a.chains (step m e) → Goes image plan tasks needs (step m e)
    to_turn turn = record {
      owner = u;
      words = a.words;
      chains = a.chains;
      kept = all_after wd m k mem pcxi fcx seen of paused e e2 fits2 (IsKept plan tasks) (λ x in_rom. inl in_rom) a next.run fits others_blocks turn;
    }

    of2 : ViewOf image plan tasks u (step m e).mem (seen_as (step m e) a.view a.view_pcxi a.view_fcx)
    of2 = view_after wd m k mem pcxi fcx seen of paused e e2 fits2 (IsKept plan tasks) (λ x in_rom. inl in_rom) a next.run

    paused2 : Paused plan (step m e).mem (step m e).pcxi (a.chains u) a.seen (step m e).lcx a.view a.view_pcxi a.view_fcx
    paused2 = paused_after wd m k mem pcxi fcx seen of paused e e2 fits2 (IsKept plan tasks) (λ x in_rom. inl in_rom) a next.run

    runs_on : AreFirst tasks (frames_after_step (seen_as m mem pcxi fcx) e2 ((of.run).frame ∷ (of.run).behind)) → Goes image plan tasks needs (step m e)
    runs_on all =
        let enters : IsInRoutine tasks (step v e2).pc → (step v e2).pc ≡ tasks.switch =
        view_enters wd.ok wd.are wd.fit own (certs u) (wd.judged u own) (view_few wd u own) (step v e2) next.run (subst (AreFirst tasks) (sym next.frames_are) all)
        in
        to_turn (runs a.view a.view_pcxi a.view_fcx a.seen of2 paused2 still_now (subst (λ (x : Machine). IsInRoutine tasks x.pc → x.pc ≡ tasks.switch) a.is enters))

  -- ---- an interrupt
  goes_interrupt : (IsInRoutine tasks m.pc → m.pc ≡ tasks.switch) → is_interrupt_taken m e ≡ true → Goes image plan tasks needs (step m e)
  goes_interrupt at_first taken =
      let fits2 : Fits plan2 v e = fits_interrupt wd.ok tasks wd.are wd.fit u m mem pcxi fcx b e fits taken in
      let a = interrupt_step wd.ok (view_ok wd u own) (IsKept plan tasks) is_kept m mem pcxi fcx b limits p.state e taken e refl refl
      (record { own_room = own_room wd m k mem pcxi fcx seen of paused e e fits2; all_room = room_for_all wd m k mem pcxi fcx seen of paused e e fits2 }) (runs_too wd m k mem pcxi fcx seen of paused e e fits2)
      in
      let all = first_interrupt tasks v e (of.run).frame (of.run).behind taken
      (λ is. elim (in_or_out tasks m.pc) [ inl inside ↦ at_first inside | inr out ↦ absurd (view_out_of_routine wd.ok wd.are wd.fit own (certs u) (wd.judged u own) (view_few wd u own) v of.run out is) ]) (of.run).first
      in
      let next = view_run_interrupt wd.ok wd.are wd.fit own (certs u) (wd.judged u own) (view_few wd u own) v of.run k.running of.rom seen paused.view_free paused.view_links paused.view_areas e fits2 taken
      (AreFirst-left tasks (frames_after_step v e ((of.run).frame ∷ (of.run).behind)) all)
      in
      runs_on e fits2 a next all

  -- ---- an instruction that both have
  abbrev e2 : Event
  e2 = event_for m e p.shape

  at : AtPoint (limits_of_cert (view_plan_of plan tasks u) (certs u)) (view_image_of image tasks u) plan tasks u (seen_as m mem pcxi fcx) e p.state p.shape p.size
  at = view_at_point wd.ok wd.are wd.fit own (certs u) (wd.judged u own) (view_few wd u own) v of.run k.running of.rom e

  store_is : (shape : Shape) (size : ℕ) → AtPoint (limits_of_cert (view_plan_of plan tasks u) (certs u)) (view_image_of image tasks u) plan tasks u (seen_as m mem pcxi fcx) e p.state shape size
      → StoreIs wd.ok (view_ok wd u own) (IsKept plan tasks) is_kept m mem pcxi fcx b (limits_of_cert (view_plan_of plan tasks u) (certs u)) p.state e shape
  store_is (Store src base offset width after) size h =
      λ none.
      let same = address-same m mem pcxi fcx e e base offset after in
      let range : IsStoreInRange plan2 (access_address m base offset after, width) = subst (λ y. IsStoreInRange plan2 (y, width)) same (h.store_at (ap (λ y. is_trapping_access e y width) same ∙ none)) in
      let some : 0 < width = size_some width (IsCode-bounded view plan2 m.pc (Store src base offset width after) size h.code).3 in (
        (view_store wd.ok tasks wd.are wd.fit u (access_address m base offset after) width some range).0,
        view_store_gone wd.ok tasks wd.are wd.fit u mem of.memory (access_address m base offset after) width (reg m src) some range,
        store_keeps wd.ok tasks wd.are wd.fit u m.mem (access_address m base offset after) width (reg m src) some range,
      )
  store_is _ size h = tt

  module _ (none : is_interrupt_taken m e ≡ false) (same : HasCodeOf image (view_image_of image tasks u) m.pc p.size) where
    here : fetched_instruction m ≡ Ok (p.shape, p.size)
    here = fetched_code image plan m p.shape p.size wd.ok k.rom (same_code image view plan m.pc p.size p.shape same (code_of view plan tasks u m.pc p.shape p.size p.code))

    there : fetched_instruction (seen_as m mem pcxi fcx) ≡ Ok (p.shape, p.size)
    there = view_fetched wd.ok wd.are wd.fit own (certs u) (wd.judged u own) (view_few wd u own) v of.run k.running of.rom

    fits2 : Fits (view_plan_of plan tasks u) (seen_as m mem pcxi fcx) e2
    fits2 = view_fits wd.ok tasks wd.are wd.fit u m mem pcxi fcx b e fits limits p.state p.shape p.size at none here there

    alike : Alike plan (count tasks) u word_of chain_of (IsKept plan tasks) mem m (step m e) (step (seen_as m mem pcxi fcx) e2)
    alike =
        outside_step wd.ok (view_ok wd u own) (IsKept plan tasks) is_kept m mem pcxi fcx b limits p.state e p.shape p.size at same none
        (record { own_room = own_room wd m k mem pcxi fcx seen of paused e e2 fits2; all_room = room_for_all wd m k mem pcxi fcx seen of paused e e2 fits2 }) (store_is p.shape p.size at) (runs_too wd m k mem pcxi fcx seen of paused e e2 fits2)

    next_by : AreFirst tasks (frames_after_return (frames_after_step (seen_as m mem pcxi fcx) e2 ((of.run).frame ∷ (of.run).behind)))
        → NextRun image plan tasks u (step (seen_as m mem pcxi fcx) e2) (frames_after_step (seen_as m mem pcxi fcx) e2 ((of.run).frame ∷ (of.run).behind))
    next_by first = view_run_step wd.ok wd.are wd.fit own (certs u) (wd.judged u own) (view_few wd u own) v of.run k.running of.rom seen paused.view_free paused.view_links paused.view_areas e2 fits2 of.memory none first

    -- outside of the routine
    goes_outside : (IsInRoutine tasks m.pc → ⊥) → Goes image plan tasks needs (step m e)
    goes_outside out =
        let all = first_next tasks v e2 (of.run).frame (of.run).behind (view_out_of_routine wd.ok wd.are wd.fit own (certs u) (wd.judged u own) (view_few wd u own) v of.run out) (of.run).first in
        runs_on e2 fits2 alike (next_by (AreFirst-left tasks (frames_after_step v e2 ((of.run).frame ∷ (of.run).behind)) all)) all

    -- the first instruction of the routine disables interrupts
    goes_in : m.pc ≡ tasks.switch → p.shape ≡ Disable → p.size ≡ 4 → Goes image plan tasks needs (step m e)
    goes_in start is long =
        let first = first_stays tasks v e2 (of.run).frame (of.run).behind p.shape p.size none there (ap (λ (s : Shape). edge_way_by_trap v e2 s (step v e2).pc) is) (of.run).first in
        let at_4 : fetched_instruction m ≡ Ok (Disable, 4) = here ∙ (λ i. Ok (is i, long i)) in
        let next_is : step m e ≡ with_event (record (with_pc_advanced 4 m) { ie = false }) e =
        step_does m e Disable 4 k.running none at_4 (ap (λ (x : Machine). x.end) (disable_is m e) ∙ k.running) ∙ ap (λ (x : Machine). with_event x e) (disable_is m e)
        in
        let small : tasks.switch + 72 ≤ 2 ^ 32 = rom_fits wd.ok tasks.switch 72 (wd.has 71 (omega arith)).in_rom in
        let next = next_by first in
        to_turn e2 fits2 alike next
        (switches (alike.view) (alike.view_pcxi) (alike.view_fcx) (alike.seen) 1 (omega arith) (omega arith) (of2 e2 fits2 alike next) (paused2 e2 fits2 alike next)
        (record {
          pc = ap (λ (x : Machine). x.pc) next_is ∙ (let f : (m.pc + 4) % 2 ^ 32 ≡ tasks.switch + 4 * 1 = omega arith in f);
          off = ap (λ (x : Machine). x.ie) next_is;
          high = λ a. absurd (omega arith);
          block = λ a. absurd (omega arith);
          own = λ a c. absurd (omega arith);
          own_word = λ a c. absurd (omega arith);
          pcxi = λ a. absurd (omega arith);
          stored = λ a. absurd (omega arith);
          one_on = λ a c. absurd (omega arith);
          at_end = λ a. absurd (omega arith);
          next = λ a. absurd (omega arith);
          old_current = λ a. still_now e2 fits2 alike next;
          new_current = λ a. absurd (omega arith);
          next_word = λ a. absurd (omega arith);
          next_pcxi = λ a. absurd (omega arith);
        }))

    -- the second saves the lower context
    goes_saved : m.pc ≡ tasks.switch + 4 * 1 → m.ie ≡ false → p.shape ≡ Svlcx → p.size ≡ 4 → Goes image plan tasks needs (step m e)
    goes_saved here_1 off is long =
        let first = first_stays tasks v e2 (of.run).frame (of.run).behind p.shape p.size none there (ap (λ (s : Shape). edge_way_by_trap v e2 s (step v e2).pc) is) (of.run).first in
        let at_4 : fetched_instruction m ≡ Ok (Svlcx, 4) = here ∙ (λ i. Ok (is i, long i)) in
        let after_runs : (step m e).end ≡ Running = sym (ap (λ (x : Machine). x.end) alike.is) ∙ runs_too wd m k mem pcxi fcx seen of paused e e2 fits2 in
        let does_runs : (after_instruction m e Svlcx 4).end ≡ Running = sym (ap (λ (x : Machine). x.end) (done-is m e Svlcx 4 none at_4)) ∙ done_runs m e k.running after_runs in
        let save_runs : (save m false).end ≡ Running = dead≢running (save m false).end (save m false) (with_pc_advanced 4) refl (sym (ap (λ (x : Machine). x.end) (does-svlcx m e 4)) ∙ does_runs) in
        let does_is : after_instruction m e Svlcx 4 ≡ with_pc_advanced 4 (save m false) = does-svlcx m e 4 ∙ then_-running (save m false) (with_pc_advanced 4) save_runs in
        let next_is : step m e ≡ with_event (with_pc_advanced 4 (save m false)) e = step_does m e Svlcx 4 k.running none at_4 does_runs ∙ ap (λ (x : Machine). with_event x e) does_is in
        let place = save_place m false in
        let small : tasks.switch + 72 ≤ 2 ^ 32 = rom_fits wd.ok tasks.switch 72 (wd.has 71 (omega arith)).in_rom in
        let next = next_by first in
        to_turn e2 fits2 alike next
        (switches (alike.view) (alike.view_pcxi) (alike.view_fcx) (alike.seen) 2 (omega arith) (omega arith) (of2 e2 fits2 alike next) (paused2 e2 fits2 alike next)
        (record {
          pc = ap (λ (x : Machine). x.pc) next_is ∙ ap (λ x. wrapping_sum x 4) place.0 ∙ (let f : (m.pc + 4) % 2 ^ 32 ≡ tasks.switch + 4 * 2 = omega arith in f);
          off = ap (λ (x : Machine). x.ie) next_is ∙ place.1 ∙ off;
          high = λ a. absurd (omega arith);
          block = λ a. absurd (omega arith);
          own = λ a c. absurd (omega arith);
          own_word = λ a c. absurd (omega arith);
          pcxi = λ a. absurd (omega arith);
          stored = λ a. absurd (omega arith);
          one_on = λ a c. absurd (omega arith);
          at_end = λ a. absurd (omega arith);
          next = λ a. absurd (omega arith);
          old_current = λ a. still_now e2 fits2 alike next;
          new_current = λ a. absurd (omega arith);
          next_word = λ a. absurd (omega arith);
          next_pcxi = λ a. absurd (omega arith);
        }))

  -- the bytes of an instruction outside of the routine, or of its first two, are the image's
  own_code : (IsInRoutine tasks m.pc → m.pc ≤ tasks.switch + 4) → HasCodeOf image (view_image_of image tasks u) m.pc p.size
  own_code first i lt =
      let even : m.pc % 2 ≡ 0 = (p.code).even in
      let y_even : tasks.switch % 2 ≡ 0 = (wd.are).even in
      let four : p.size ≤ 4 = elim (IsCode-sized view plan2 m.pc p.shape p.size p.code) [ inl two ↦ omega arith | inr all ↦ omega arith ] in
      elim (cases_lt (m.pc + i) tasks.switch) [
        | inl low ↦ view_byte_outside image tasks u (m.pc + i) (inl low)
        | inr from ↦ elim (cases_lt (m.pc + i) (tasks.switch + routine_size)) [
          | inr high ↦ view_byte_outside image tasks u (m.pc + i) (inr high)
          | inl within ↦
              let near : m.pc + i < tasks.switch + 8 = elim (cases_lt m.pc tasks.switch) [ inl before ↦ omega arith | inr after_it ↦ (let is = first (after_it, omega arith) in omega arith) ] in
              let at : tasks.switch + (m.pc + i - tasks.switch) ≡ m.pc + i = omega arith in
              ap (image_byte view) (sym at) ∙ first_bytes image plan tasks wd.are wd.has u (m.pc + i - tasks.switch) (omega arith) ∙ ap (image_byte image) at
        ]
      ]

  -- one event
  pub goes_runs : (IsInRoutine tasks m.pc → m.pc ≡ tasks.switch) → Goes image plan tasks needs (step m e)
  goes_runs at_first =
      let code = own_code (λ i. let is = at_first i in omega arith) in
      elim (cases_Bool (is_interrupt_taken m e)) [
        | inl taken ↦ goes_interrupt at_first taken
        | inr none ↦ elim (in_or_out tasks m.pc) [
          | inr out ↦ goes_outside none code out
          | inl inside ↦
              let at_0 : IsCode view plan m.pc Disable 4 = subst (λ x. IsCode view plan x Disable 4) (let f : tasks.switch + 4 * 0 ≡ m.pc = omega arith in f) (view_code_0 image plan tasks wd.are wd.has u) in
              let one = IsCode-one view plan m.pc p.shape Disable p.size 4 (code_of view plan tasks u m.pc p.shape p.size p.code) at_0 in
              goes_in none code (at_first inside) one.0 one.1
        ]
      ]

  -- the second instruction of the routine saves the lower context
  pub goes_saves : m.pc ≡ tasks.switch + 4 * 1 → m.ie ≡ false → Goes image plan tasks needs (step m e)
  goes_saves here_1 off =
      let at_1 : IsCode view plan m.pc Svlcx 4 = subst (λ x. IsCode view plan x Svlcx 4) (sym here_1) (view_code_1 image plan tasks wd.are wd.has u) in
      let one = IsCode-one view plan m.pc p.shape Svlcx p.size 4 (code_of view plan tasks u m.pc p.shape p.size p.code) at_1 in
      goes_saved (none_when_off m e off) (own_code (λ i. omega arith)) here_1 off one.0 one.1

  -- ---- its stores
  stored_taken : (m : Machine) (e : Event) → is_interrupt_taken m e ≡ true → stored m e ≡ None
  unfolding stored
  stored_taken m e taken = ap (λ t. none_if_dead m.end (cond t None (store_of_fetched m e (fetched_instruction m)))) taken ∙ by_end m.end
    where
      by_end : (end : End) → none_if_dead end None ≡ None
      by_end Running = refl
      by_end (Dead cause) = refl

  store_by : (shape : Shape) (size : ℕ) → AtPoint (limits_of_cert (view_plan_of plan tasks u) (certs u)) (view_image_of image tasks u) plan tasks u (seen_as m mem pcxi fcx) e p.state shape size → IfSome (store_of_fetched m e (Ok (shape, size))) (IsAllowedTaskStore plan tasks m.pc)
  store_by (Store src base offset width after) size h =
      let x = access_address m base offset after in
      let same = address-same m mem pcxi fcx e e base offset after in
      let some : 0 < width = size_some width (IsCode-bounded view plan2 m.pc (Store src base offset width after) size h.code).3 in
      elim (cases_Bool (is_trapping_access e x width)) [
        | inl trapped ↦ subst (λ t. IfSome (cond t None (Some (x, width))) (IsAllowedTaskStore plan tasks m.pc)) (sym trapped) tt
        | inr none ↦
            let range : IsStoreInRange plan2 (x, width) = subst (λ y. IsStoreInRange plan2 (y, width)) same (h.store_at (ap (λ y. is_trapping_access e y width) same ∙ none)) in
            let s = view_store wd.ok tasks wd.are wd.fit u x width some range in
            subst (λ t. IfSome (cond t None (Some (x, width))) (IsAllowedTaskStore plan tasks m.pc)) (sym none) (s.0, λ out. s.1)
      ]
  store_by _ size h = tt

  -- the machine is at the image's own code
  pub goes_code : (IsInRoutine tasks m.pc → m.pc ≤ tasks.switch + 4) → HasCode image plan m.pc
  goes_code at_first = record { shape = p.shape; size = p.size; code = same_code image view plan m.pc p.size p.shape (own_code at_first) (code_of view plan tasks u m.pc p.shape p.size p.code) }

  -- they are in range and miss the block
  pub goes_store : (IsInRoutine tasks m.pc → m.pc ≤ tasks.switch + 4) → IfSome (stored m e) (IsAllowedTaskStore plan tasks m.pc)
  goes_store at_first =
      elim (cases_Bool (is_interrupt_taken m e)) [
        | inl taken ↦ subst (λ o. IfSome o (IsAllowedTaskStore plan tasks m.pc)) (sym (stored_taken m e taken)) tt
        | inr none ↦ subst (λ o. IfSome o (IsAllowedTaskStore plan tasks m.pc)) (sym (stored-is m e (Ok (p.shape, p.size)) k.running none (here none (own_code at_first)))) (store_by p.shape p.size at)
      ]
