-- The switch itself, and the instructions after it: the contexts of the next task are restored.
use Rattle.std.proofs.Common.{◌≡◌, ◌≢◌, ℕ, suc, ◌+◌, ◌*◌, ◌/◌, ◌<◌, inl, inr, Bool, true, false, cond, List, [], ◌∷◌, length, get_or, Ok, Result, refl, sym, ap, ◌∙◌, subst, arith}
use Rattle.std.proofs.lemmas.Bool.{cases_eq}
use Rattle.std.specs.FinMap as finite
use Rattle.csa_chain.specs.MemoryBytes.{Memory, is_mapped}
use Rattle.csa_chain.specs.Chain.{link_in}
use Rattle.csa_chain.proofs.ChainLaws.{Links}
use Rattle.elf_image.specs.Images.{ImageData}
use Rattle.tcd_plan.specs.PlanData.{PlanData}
use Rattle.tcd_plan.specs.MappedAddresses.{MayAnswerLoad}
use Rattle.tc_isa.specs.declared.shapes.Shape.{Shape}
use Rattle.tc_isa.specs.declared.shapes.Shape.TheVariants.{Ret, Rslcx, Mtcr, Nothing}
use Rattle.tc_machine.specs.declared.events.Cause.{Cause}
use Rattle.tc_machine.specs.declared.events.Event.{Event}
use Rattle.tc_machine.specs.declared.events.End.TheVariants.{Running}
use Rattle.tc_machine.specs.declared.state.Machine.{Machine}
use Rattle.tc_machine.specs.Machine.{reg, a11, if_running, IsMachine}
use Rattle.tc_machine.specs.Instructions.{wrapping_sum, with_pc_advanced, after_instruction}
use Rattle.tc_machine.specs.SavesAndRestores.{is_last_context_of_kind, with_area_released, with_context_restored, restore}
use Rattle.tc_machine.specs.Fetching.{fetched_instruction, fetched_size}
use Rattle.tc_machine.specs.Stepping.{is_interrupt_taken, load_of_fetched, step}
use Rattle.tc_machine.specs.Safe.{Fits}
use Rattle.tc_machine.specs.Starting.{HasGlobals}
use Rattle.tc_machine.proofs.Areas.{Areas}
use Rattle.tc_machine.proofs.Kept.{none_when_off}
use Rattle.tc_machine.proofs.Saves.{then_-running}
use Rattle.tc_machine.proofs.Stays.{stays_step, irq_lt}
use Rattle.tc_machine.proofs.Steps.{with_event, done-is, step_does, does-nothing, does-ret}
use Rattle.depth_cert.specs.Certs.{CertData}
use Rattle.cfg_recover.specs.Code.{IsCode}
use Rattle.cfg_recover.specs.Frames.{RunFrame, frames_after_return, frames_after_edge, frames_after_step}
use Rattle.cfg_recover.specs.StepEdges.{to, ret, irq, edge_way_by_trap, edge_way_in_fetch}
use Rattle.cfg_recover.proofs.EntryLaws.{reg_lt}
use Rattle.cfg_recover.proofs.Points.{does-rslcx}
use Rattle.task_chains.specs.Tasks.{TasksData, count}
use Rattle.task_chains.specs.Views.{view_image_of, view_plan_of}
use Rattle.task_chains.specs.TaskStarts.{block_word, current_task}
use Rattle.task_chains.specs.SwitchRoutine.{IsInRoutine}
use Rattle.task_chains.proofs.Alike.{seen_as, Alike}
use Rattle.task_chains.proofs.Backs.{restores_from, restored_end, Alike-restored}
use Rattle.task_chains.proofs.Fitting.{fitting}
use Rattle.task_chains.proofs.FramesKept.{AreFirst, AreFirst-left}
use Rattle.task_chains.proofs.Going.{Goes, code_to, first_stays}
use Rattle.task_chains.proofs.Invariant.{after, ViewOf, Waits, ready, paused, Turn, runs, comes_back, begins, InRoutine, AllKept}
use Rattle.task_chains.proofs.Joined.{World, block_same, kept, view_few, view_ok, all_from}
use Rattle.task_chains.proofs.Outside.{fetched_code, done_runs, back_runs}
use Rattle.task_chains.proofs.RoutineCode.{code_14, code_15, code_16, code_17, view_code_14, view_code_15, view_code_16, view_code_17}
use Rattle.task_chains.proofs.Switch.{Paused, Shared, Twins-from, Shared-from, Beside, SameLower, SameGlobals, does-mtcr_pcxi, lower_back, view_comes_back, switched_back, comes_back as restore_stands}
use Rattle.task_chains.proofs.Turning.{after_below, routine_fits}
use Rattle.task_chains.proofs.Twins.{Twins, SameContexts-length}
use Rattle.task_chains.proofs.ViewEvents.{IsKept}
use Rattle.task_chains.proofs.ViewRun.{HasCore, ViewRun, NextRun, view_words, view_running, view_ccpn, view_enters, view_globals, view_runs, view_seen_few, view_run_step}
use Rattle.task_chains.proofs.WaitsKept.{waits_kept}
use Rattle.task_chains.proofs.Levels.{areas_same}

-- one event of a view in the routine
record ViewMoved (image : ImageData) (plan : PlanData) (tasks : TasksData) (u : ℕ) (v : Machine) (e : Event) (fs : List RunFrame) (shape : Shape) : Type 0 where
  pub at : fetched_instruction v ≡ Ok (shape, 4)
  pub none : is_interrupt_taken v e ≡ false
  pub lives : (step v e).end ≡ Running
  pub next : NextRun image plan tasks u (step v e) fs

-- both have the plan's globals
globals_same : (plan : PlanData) (m v : Machine) → HasGlobals plan m.a → HasGlobals plan v.a → SameGlobals m v
globals_same plan m v h g =
    let same = g ∙ sym h in
    record { a0 = ap (λ (l : List ℕ). get_or l 0 0) same; a1 = ap (λ (l : List ℕ). get_or l 1 0) same; a8 = ap (λ (l : List ℕ). get_or l 2 0) same; a9 = ap (λ (l : List ℕ). get_or l 3 0) same }

-- a return ends the newest frame
first_returns : (tasks : TasksData) (v : Machine) (e : Event) (f : RunFrame) (fs : List RunFrame) → is_interrupt_taken v e ≡ false → fetched_instruction v ≡ Ok (Ret, 4) → AreFirst tasks fs → AreFirst tasks (frames_after_step v e (f ∷ fs))
first_returns tasks v e f fs none at first =
    let q = (step v e).pc in
    let way : cond (is_interrupt_taken v e) (irq q) (edge_way_in_fetch v e (fetched_instruction v) q) ≡ ret = ap (λ t. cond t (irq q) (edge_way_in_fetch v e (fetched_instruction v) q)) none ∙ ap (λ (r : Result (Shape × ℕ) Cause). edge_way_in_fetch v e r q) at in
    subst (λ w. AreFirst tasks (frames_after_edge v.pc (wrapping_sum v.pc (fetched_size (fetched_instruction v))) e.irq w (f ∷ fs))) (sym way) first

module _ {image : ImageData} {plan : PlanData} {tasks : TasksData} {certs : ℕ → CertData} {needs : ℕ → ℕ} (wd : World image plan tasks certs needs) where
  -- ---- a view in the routine, with interrupts off
  module _ {u : ℕ} (own : u < count tasks) (mem : Memory) (v : Machine) (of : ViewOf image plan tasks u mem v) (seen free : List ℕ) (links : Links v.mem v.pcxi seen) (areas : Areas plan v.mem v.fcx v.lcx seen free) (off : v.ie ≡ false)
      (m : Machine) (e : Event) (fits : Fits plan m e) where
    abbrev fs : List RunFrame
    fs = (of.run).frame ∷ (of.run).behind

    view_moves : (shape : Shape) → IsCode (view_image_of image tasks u) plan v.pc shape 4 → MayAnswerLoad (view_plan_of plan tasks u) e.input (load_of_fetched v (Ok (shape, 4)))
        → (is_interrupt_taken v e ≡ false → fetched_instruction v ≡ Ok (shape, 4) → AreFirst tasks (frames_after_return (frames_after_step v e ((of.run).frame ∷ (of.run).behind)))) → ViewMoved image plan tasks u v e (frames_after_step v e ((of.run).frame ∷ (of.run).behind)) shape
    view_moves shape code answers first =
        let none = none_when_off v e off in
        let running = view_running wd.ok wd.are wd.fit own (certs u) (wd.judged u own) (view_few wd u own) v of.run in
        let there : fetched_instruction v ≡ Ok (shape, 4) = fetched_code (view_image_of image tasks u) (view_plan_of plan tasks u) v shape 4 (view_ok wd u own) of.rom (code_to (view_image_of image tasks u) plan tasks u v.pc shape 4 code) in
        let fits2 : Fits (view_plan_of plan tasks u) v e =
        record {
          irq = fits.irq;
          input = fits.input;
          status = fits.status;
          answers = λ _. subst (λ (r : Result (Shape × ℕ) Cause). MayAnswerLoad (view_plan_of plan tasks u) e.input (load_of_fetched v r)) (sym there) answers;
        }
        in
        record {
          at = there;
          none = none;
          lives = view_runs wd.ok wd.are wd.fit own (certs u) (wd.judged u own) (view_few wd u own) v of.run running of.rom seen free links areas e fits2;
          next = view_run_step wd.ok wd.are wd.fit own (certs u) (wd.judged u own) (view_few wd u own) v of.run running of.rom seen free links areas e fits2 of.memory none (first none there);
        }

    stays_in : (shape : Shape) → edge_way_by_trap v e shape (step v e).pc ≡ to (step v e).pc → is_interrupt_taken v e ≡ false → fetched_instruction v ≡ Ok (shape, 4) → AreFirst tasks (frames_after_return (frames_after_step v e ((of.run).frame ∷ (of.run).behind)))
    stays_in shape way none there = first_stays tasks v e (of.run).frame (of.run).behind shape 4 none there way (of.run).first

    -- the instruction does nothing
    nothing_is : ViewMoved image plan tasks u v e (frames_after_step v e ((of.run).frame ∷ (of.run).behind)) Nothing → step v e ≡ with_event (with_pc_advanced 4 v) e
    nothing_is b =
        let running = view_running wd.ok wd.are wd.fit own (certs u) (wd.judged u own) (view_few wd u own) v of.run in
        step_does v e Nothing 4 running b.none b.at (ap (λ (x : Machine). x.end) (does-nothing v e 4) ∙ running) ∙ ap (λ (x : Machine). with_event x e) (does-nothing v e 4)

    view_nothing : IsCode (view_image_of image tasks u) plan v.pc Nothing 4 → ViewOf image plan tasks u mem (with_event (with_pc_advanced 4 v) e)
    view_nothing code =
        let b = view_moves Nothing code tt (stays_in Nothing refl) in
        record { run = subst (ViewRun image plan tasks u) (nothing_is b) (b.next).run; memory = of.memory; rom = of.rom; same_rom = of.same_rom }

  -- ---- PCXI becomes the next task's
  module _ (m : Machine) {u : ℕ} {word_of : ℕ → ℕ} {chain_of : ℕ → List ℕ} (k : AllKept image plan tasks needs m u word_of chain_of) (e : Event) (fits : Fits plan m e) where
    abbrev own : u < count tasks
    own = (k.shared).own

    at_code : (i : ℕ) → m.pc ≡ tasks.switch + 4 * i → (shape : Shape) → IsCode image plan (tasks.switch + 4 * i) shape 4 → fetched_instruction m ≡ Ok (shape, 4)
    at_code i pc shape c = fetched_code image plan m shape 4 wd.ok k.rom (subst (λ x. IsCode image plan x shape 4) (sym pc) c)

    next_pc : (i : ℕ) → i < 17 → m.pc ≡ tasks.switch + 4 * i → wrapping_sum m.pc 4 ≡ tasks.switch + 4 * suc i
    next_pc i lt pc = let f = routine_fits wd in omega arith

    module _ (mem : Memory) (pcxi fcx : ℕ) (seen : List ℕ) (of : ViewOf image plan tasks u m.mem (seen_as m mem pcxi fcx)) (pause : Paused plan m.mem m.pcxi (chain_of u) seen m.lcx mem pcxi fcx) (r : InRoutine tasks m u 14 word_of) where
      abbrev w : ℕ
      w = after (count tasks) u

      abbrev x : Machine
      x = with_event (record (with_pc_advanced 4 m) { pcxi = reg m 1 }) e

      beyond : (after (count tasks) u < count tasks) × (after (count tasks) u ≢ u)
      beyond = after_below (count tasks) u (wd.are).some own

      step_at : step m e ≡ with_event (record (with_pc_advanced 4 m) { pcxi = reg m 1 }) e
      step_at =
          let done = does-mtcr_pcxi m e 1 4 in
          step_does m e (Mtcr 1 0xfe00) 4 k.running (none_when_off m e r.off) (at_code 14 r.pc (Mtcr 1 0xfe00) (code_14 image plan tasks wd.are wd.has)) (ap (λ (y : Machine). y.end) done ∙ k.running) ∙ ap (λ (y : Machine). with_event y e) done

      named : reg m 1 ≡ word_of (after (count tasks) u)
      named = r.next_pcxi refl

      level : m.ccpn ≡ plan.start_ccpn
      level = view_ccpn wd.ok wd.are wd.fit own (certs u) (wd.judged u own) (view_few wd u own) (seen_as m mem pcxi fcx) of.run (let pc = r.pc in (omega arith, omega arith))

      shared2 : Shared plan (count tasks) (after (count tasks) u) word_of chain_of m.mem (reg m 1) m.fcx m.lcx
      shared2 = record {
        own = beyond.0;
        first = sym named;
        links = (k.shared).links;
        free = (k.shared).free;
        free_links = (k.shared).free_links;
        share = (k.shared).share;
        front = (k.shared).front;
        reserved = (k.shared).reserved;
        lcx_is = (k.shared).lcx_is;
        pcxi_word = reg_lt m k.words 1;
        fcx_word = (k.shared).fcx_word;
      }

      -- the task that gave way waits
      gave_way : (block_word tasks m.mem u ≡ word_of u) × Waits image plan tasks u x (word_of u) (chain_of u)
      gave_way = (
        r.stored (omega arith) ∙ sym (k.shared).first,
        paused (seen_as m mem pcxi fcx) seen of r.pc r.off level
            (subst (λ y. Paused plan m.mem y (chain_of u) seen m.lcx mem pcxi fcx) (sym (k.shared).first) pause),
      )

      all_with : Turn image plan tasks (after (count tasks) u) word_of chain_of x → AllKept image plan tasks needs x (after (count tasks) u) word_of chain_of
      all_with turn = record {
        shared = shared2;
        words = subst IsMachine step_at (stays_step m e k.words (irq_lt wd.ok m e fits) fits.input fits.status);
        running = k.running;
        memory = k.memory;
        rom = k.rom;
        globals = k.globals;
        biv = k.biv;
        btv = k.btv;
        isp = k.isp;
        core = k.core;
        lcx = k.lcx;
        turn = turn;
        waits = λ j lt apart.
            elim (cases_eq j u) [
              | inl same ↦ subst (λ i. (block_word tasks m.mem i ≡ word_of i) × Waits image plan tasks i x (word_of i) (chain_of i)) (sym same) gave_way
              | inr other ↦ let o = k.waits j lt other in (o.0, waits_kept image plan tasks j m x (word_of j) (chain_of j) (areas_same m.mem (chain_of j)) (λ y in_rom. refl) refl refl refl o.1)
            ];
        needs_kept = k.needs_kept;
      }

      incoming : block_word tasks m.mem (after (count tasks) u) ≡ word_of (after (count tasks) u) → Waits image plan tasks (after (count tasks) u) m (word_of (after (count tasks) u)) (chain_of (after (count tasks) u))
          → Turn image plan tasks (after (count tasks) u) word_of chain_of x
      incoming block (ready later is links) =
          begins 15 (omega arith) (omega arith) (next_pc 14 (omega arith) r.pc) r.off level later (λ _. (is, named ∙ sym block ∙ is.word, links)) (λ a. absurd (omega arith)) (r.new_current (omega arith))
      incoming block (paused v seen2 of2 pc2 off2 ccpn2 p2) =
          let core2 = (of2.run).core in
          let pc_14 : v.pc ≡ tasks.switch + 4 * 14 = pc2 in
          let code : IsCode (view_image_of image tasks w) plan v.pc Nothing 4 = subst (λ y. IsCode (view_image_of image tasks w) plan y Nothing 4) (sym pc_14) (view_code_14 image plan tasks wd.are wd.has w) in
          comes_back (with_event (with_pc_advanced 4 v) e) seen2 15 (omega arith) (omega arith) (next_pc 14 (omega arith) r.pc) r.off (view_nothing beyond.0 m.mem v of2 seen2 p2.view_free p2.view_links (subst (λ y. Areas plan v.mem v.fcx y seen2 p2.view_free) (sym (core2.lcx ∙ sym k.lcx)) p2.view_areas) off2 m e fits code)
          (record {
            pc = ap (λ y. wrapping_sum y 4) (pc_14 ∙ sym r.pc);
            lcx = core2.lcx ∙ sym k.lcx;
            ccpn = ccpn2 ∙ sym level;
            ie = off2 ∙ sym r.off;
            biv = core2.biv ∙ sym k.biv;
            btv = core2.btv ∙ sym k.btv;
            isp = core2.isp ∙ sym k.isp;
            core = core2.core ∙ sym k.core;
            end = view_running wd.ok wd.are wd.fit beyond.0 (certs w) (wd.judged w beyond.0) (view_few wd w beyond.0) v of2.run ∙ sym k.running;
          })
          (λ a. absurd (omega arith)) (subst (λ y. Paused plan m.mem y (chain_of w) seen2 m.lcx v.mem v.pcxi v.fcx) (sym named) p2) (r.new_current (omega arith))

      pub goes_switch : Goes image plan tasks needs (step m e)
      goes_switch =
          let o = k.waits w beyond.0 beyond.1 in
          subst (Goes image plan tasks needs) (sym step_at) (record { owner = w; words = word_of; chains = chain_of; kept = all_with (incoming o.0 o.1) })

    -- ---- the view of the task that comes back
    module _ (v : Machine) (seen : List ℕ) (off : m.ie ≡ false) (of : ViewOf image plan tasks u m.mem v) (beside : Beside m v) (pause : Paused plan m.mem m.pcxi (chain_of u) seen m.lcx v.mem v.pcxi v.fcx) (now : current_task tasks m.mem ≡ u) where
      view_off : v.ie ≡ false
      view_off = beside.ie ∙ off

      own_areas : Areas plan v.mem v.fcx v.lcx seen pause.view_free
      own_areas = subst (λ y. Areas plan v.mem v.fcx y seen pause.view_free) (sym beside.lcx) pause.view_areas

      none : is_interrupt_taken m e ≡ false
      none = none_when_off m e off

      view_at : (i : ℕ) → m.pc ≡ tasks.switch + 4 * i → (shape : Shape) → IsCode (view_image_of image tasks u) plan (tasks.switch + 4 * i) shape 4 → IsCode (view_image_of image tasks u) plan v.pc shape 4
      view_at i pc shape c = subst (λ y. IsCode (view_image_of image tasks u) plan y shape 4) (sym (beside.pc ∙ pc)) c

      -- instruction 15 does nothing
      pub comes_on : m.pc ≡ tasks.switch + 4 * 15 → Goes image plan tasks needs (step m e)
      comes_on pc =
          let x = with_event (with_pc_advanced 4 m) e in
          let m_is : step m e ≡ with_event (with_pc_advanced 4 m) e =
          step_does m e Nothing 4 k.running none (at_code 15 pc Nothing (code_15 image plan tasks wd.are wd.has)) (ap (λ (y : Machine). y.end) (does-nothing m e 4) ∙ k.running) ∙ ap (λ (y : Machine). with_event y e) (does-nothing m e 4)
          in
          let of2 = view_nothing own m.mem v of seen pause.view_free pause.view_links own_areas view_off m e fits (view_at 15 pc Nothing (view_code_15 image plan tasks wd.are wd.has u)) in
          let words : IsMachine (with_event (with_pc_advanced 4 m) e) = subst IsMachine m_is (stays_step m e k.words (irq_lt wd.ok m e fits) fits.input fits.status) in
          let turn : Turn image plan tasks u word_of chain_of (with_event (with_pc_advanced 4 m) e) =
          comes_back (with_event (with_pc_advanced 4 v) e) seen 16 (omega arith) (omega arith) (next_pc 15 (omega arith) pc) off of2
          (record { pc = ap (λ y. wrapping_sum y 4) beside.pc; lcx = beside.lcx; ccpn = beside.ccpn; ie = beside.ie; biv = beside.biv; btv = beside.btv; isp = beside.isp; core = beside.core; end = beside.end })
          (λ a. absurd (omega arith)) pause now
          in
          subst (Goes image plan tasks needs) (sym m_is)
          (record {
            owner = u;
            words = word_of;
            chains = chain_of;
            kept = all_from wd m (with_event (with_pc_advanced 4 m) e) k word_of chain_of k.shared words k.running (record { lcx = k.lcx; biv = k.biv; btv = k.btv; isp = k.isp; core = k.core }) k.globals (λ y. refl) (λ y in_rom. refl)
                (λ j lt apart. (refl, refl, areas_same m.mem (chain_of j))) (λ j lt apart. refl) (k.needs_kept u own) turn;
          })

      -- ---- a context comes back to both

      words_of_view : IsMachine v
      words_of_view = view_words wd.ok wd.are wd.fit own (certs u) (wd.judged u own) (view_few wd u own) v of.run

      words_as : IsMachine (seen_as m v.mem v.pcxi v.fcx)
      words_as =
          let a = k.words in
          let b = words_of_view in
          record { d = a.d; a = a.a; pc = a.pc; psw = a.psw; pcxi = b.pcxi; fcx = b.fcx; lcx = a.lcx; ccpn = a.ccpn; biv = a.biv; btv = a.btv; isp = a.isp; bytes = b.bytes }

      module _ (l : ℕ) (used : List ℕ) (is_l : chain_of u ≡ l ∷ used) (j : ℕ) (seen2 : List ℕ) (is_s : seen ≡ j ∷ seen2) where
        twins_here : Twins plan (count tasks) u word_of chain_of (j ∷ seen2) m.mem m.pcxi m.fcx m.lcx v.mem v.pcxi v.fcx
        twins_here = subst (λ ss. Twins plan (count tasks) u word_of chain_of ss m.mem m.pcxi m.fcx m.lcx v.mem v.pcxi v.fcx) is_s (Twins-from k.shared pause)

        -- the machine and the view with the memory, PCXI and FCX after the area is freed
        module _ (x : Machine) (mem_is : x.mem ≡ (with_area_released m).mem) (pcxi_is : x.pcxi ≡ (with_area_released m).pcxi) (fcx_is : x.fcx ≡ (with_area_released m).fcx) (lcx_is : x.lcx ≡ m.lcx) where
          back : Alike plan (count tasks) u word_of chain_of (IsKept plan tasks) v.mem m x (seen_as x (with_area_released v).mem (with_area_released v).pcxi (with_area_released v).fcx)
          back = Alike-restored wd.ok (IsKept plan tasks) (kept wd.ok wd.fit) m v.mem v.pcxi v.fcx k.words words_as k.running l used is_l j seen2 twins_here x mem_is pcxi_is fcx_is lcx_is

          paused_back : Paused plan x.mem x.pcxi (back.chains u) back.seen x.lcx (with_area_released v).mem (with_area_released v).pcxi (with_area_released v).fcx
          paused_back =
              let t = back.twins in
              subst (λ (z : Machine). Paused plan x.mem x.pcxi (back.chains u) back.seen x.lcx z.mem z.pcxi z.fcx) (sym back.is)
              (record { same = t.same; view_word = t.view_word; view_links = t.view_links; view_free = t.view_free; view_areas = t.view_areas })

          view_mapped : (y : ℕ) → is_mapped (with_area_released v).mem y ≡ is_mapped v.mem y
          view_mapped y = ap (λ (z : Machine). is_mapped z.mem y) back.is ∙ (back.mapped y).1

          view_kept : (y : ℕ) → IsKept plan tasks y → finite.get (with_area_released v).mem y ≡ finite.get v.mem y
          view_kept y is = ap (λ (z : Machine). finite.get z.mem y) back.is ∙ back.view_outside y is

          view_back : (y : Machine) → y.mem ≡ (with_area_released v).mem → ViewRun image plan tasks u y → ViewOf image plan tasks u x.mem y
          view_back y is run = record {
            run = run;
            memory = λ z. (λ h. (of.memory z).0 (sym (view_mapped z) ∙ ap (λ (q : Memory). is_mapped q z) (sym is) ∙ h), λ by. ap (λ (q : Memory). is_mapped q z) is ∙ view_mapped z ∙ (of.memory z).1 by);
            rom = λ z c in_rom held. ap (λ (q : Memory). finite.get q z) is ∙ view_kept z (inl in_rom) ∙ of.rom z c in_rom held;
            same_rom = λ z in_rom out. ap (λ (q : Memory). finite.get q z) is ∙ view_kept z (inl in_rom) ∙ of.same_rom z in_rom out ∙ sym (back.outside z (inl in_rom));
          }

          now_back : current_task tasks x.mem ≡ u
          now_back = block_same tasks m.mem x.mem (λ y low high. back.outside y (inr (low, high))) (count tasks) (omega arith) ∙ now

          -- all tasks are kept, with a view that has that memory
          all_back : (y : Machine) → y.mem ≡ (with_area_released v).mem → y.pcxi ≡ (with_area_released v).pcxi → y.fcx ≡ (with_area_released v).fcx → y.lcx ≡ x.lcx → ViewRun image plan tasks u y → IsMachine x → x.end ≡ Running → HasCore plan x → HasGlobals plan x.a
              → Turn image plan tasks u back.words back.chains x → Goes image plan tasks needs x
          all_back y y_mem y_pcxi y_fcx y_lcx run is_machine running core globals2 turn =
              let p = paused_back in
              let long : length (back.chains u) ≡ length back.seen = SameContexts-length x.mem (with_area_released v).mem x.pcxi (with_area_released v).pcxi (back.chains u) back.seen p.same in
              let view = view_back y y_mem run in
              let y_running = view_running wd.ok wd.are wd.fit own (certs u) (wd.judged u own) (view_few wd u own) y run in
              let links : Links y.mem y.pcxi back.seen = subst (λ q. Links q y.pcxi back.seen) (sym y_mem) (subst (λ q. Links (with_area_released v).mem q back.seen) (sym y_pcxi) p.view_links) in
              let areas : Areas plan y.mem y.fcx y.lcx back.seen p.view_free =
              subst (λ q. Areas plan q y.fcx y.lcx back.seen p.view_free) (sym y_mem) (subst (λ q. Areas plan (with_area_released v).mem q y.lcx back.seen p.view_free) (sym y_fcx) (subst (λ q. Areas plan (with_area_released v).mem (with_area_released v).fcx q back.seen p.view_free) (sym y_lcx) p.view_areas))
              in
              let f = fitting (view_ok wd u own) y in
              let most = view_seen_few wd.ok wd.are wd.fit own (certs u) (wd.judged u own) (view_few wd u own) y run y_running view.rom back.seen p.view_free links areas f.0 f.1 in
              let enough = wd.enough u own in
              record {
                owner = u;
                words = back.words;
                chains = back.chains;
                kept = all_from wd m x k back.words back.chains (Shared-from back.twins) is_machine running core globals2 (λ z. (back.mapped z).0) (λ z in_rom. back.outside z (inl in_rom)) back.others
                    (λ w lt apart. block_same tasks m.mem x.mem (λ z low high. back.outside z (inr (low, high))) w (omega arith)) (omega arith) turn;
              }

      -- the view restores a context, so both have one
      by_context : (upper : Bool) → (restore v upper).end ≡ Running
          → ((l : ℕ) (used : List ℕ) → chain_of u ≡ l ∷ used → (j : ℕ) (seen2 : List ℕ) → seen ≡ j ∷ seen2 → is_last_context_of_kind v upper ≡ true → Goes image plan tasks needs (step m e)) → Goes image plan tasks needs (step m e)
      by_context upper stands go =
          let r = restores_from v upper stands in
          by_lists (chain_of u) refl seen refl r.some r.kind
        where
          by_lists : (links : List ℕ) → chain_of u ≡ links → (sees : List ℕ) → seen ≡ sees → link_in v.pcxi ≢ 0 → is_last_context_of_kind v upper ≡ true → Goes image plan tasks needs (step m e)
          by_lists links is_l [] is_s some kind = absurd (some (subst (Links v.mem v.pcxi) is_s pause.view_links))
          by_lists [] is_l (j ∷ seen2) is_s some kind =
              absurd (let long = SameContexts-length m.mem v.mem m.pcxi v.pcxi (chain_of u) seen pause.same in let l0 : length (chain_of u) ≡ 0 = ap length is_l in let l1 : length seen ≡ suc (length seen2) = ap length is_s in omega arith)
          by_lists (l ∷ used) is_l (j ∷ seen2) is_s some kind = go l used is_l j seen2 is_s kind

      after_machine : IsMachine (step m e)
      after_machine = stays_step m e k.words (irq_lt wd.ok m e fits) fits.input fits.status

      -- instruction 16 restores the lower context
      pub comes_lower : m.pc ≡ tasks.switch + 4 * 16 → Goes image plan tasks needs (step m e)
      comes_lower pc =
          let b = view_moves own m.mem v of seen pause.view_free pause.view_links own_areas view_off m e fits Rslcx (view_at 16 pc Rslcx (view_code_16 image plan tasks wd.are wd.has u)) tt
          (stays_in own m.mem v of seen pause.view_free pause.view_links own_areas view_off m e fits Rslcx refl)
          in
          let running2 = view_running wd.ok wd.are wd.fit own (certs u) (wd.judged u own) (view_few wd u own) v of.run in
          let v_does : (after_instruction v e Rslcx 4).end ≡ Running = sym (ap (λ (y : Machine). y.end) (done-is v e Rslcx 4 b.none b.at)) ∙ done_runs v e running2 b.lives in
          by_context false (back_runs v false (with_pc_advanced 4) (sym (ap (λ (y : Machine). y.end) (does-rslcx v e 4)) ∙ v_does))
          (λ l used is_l j seen2 is_s kind.
          let t = twins_here l used is_l j seen2 is_s in
          let x = with_event (with_pc_advanced 4 (with_context_restored m false)) e in
          let m_does : after_instruction m e Rslcx 4 ≡ with_pc_advanced 4 (with_context_restored m false) =
          does-rslcx m e 4 ∙ ap (λ s. if_running s (with_pc_advanced 4)) (restore_stands wd.ok m v k.words words_of_view k.running beside l used is_l j seen2 t false kind) ∙ then_-running (with_context_restored m false) (with_pc_advanced 4) (restored_end m false ∙ k.running)
          in
          let m_is : step m e ≡ with_event (with_pc_advanced 4 (with_context_restored m false)) e =
          step_does m e Rslcx 4 k.running none (at_code 16 pc Rslcx (code_16 image plan tasks wd.are wd.has)) (ap (λ (y : Machine). y.end) m_does ∙ k.running) ∙ ap (λ (y : Machine). with_event y e) m_does
          in
          let y_does : after_instruction v e Rslcx 4 ≡ with_pc_advanced 4 (with_context_restored v false) =
          does-rslcx v e 4 ∙ ap (λ s. if_running s (with_pc_advanced 4)) (view_comes_back wd.ok m v k.words words_of_view k.running beside l used is_l j seen2 t false kind) ∙ then_-running (with_context_restored v false) (with_pc_advanced 4) (restored_end v false ∙ running2)
          in
          let v_is : step v e ≡ with_event (with_pc_advanced 4 (with_context_restored v false)) e = step_does v e Rslcx 4 running2 b.none b.at v_does ∙ ap (λ (y : Machine). with_event y e) y_does in
          let y : Machine = with_event (with_pc_advanced 4 (with_context_restored v false)) e in
          let run : ViewRun image plan tasks u (with_event (with_pc_advanced 4 (with_context_restored v false)) e) = subst (ViewRun image plan tasks u) v_is (b.next).run in
          let bk = back l used is_l j seen2 is_s (with_event (with_pc_advanced 4 (with_context_restored m false)) e) refl refl refl refl in
          let low = lower_back wd.ok m v k.words words_of_view k.running beside l used is_l j seen2 t (globals_same plan m v k.globals (view_globals wd.ok wd.are wd.fit own (certs u) (wd.judged u own) (view_few wd u own) v of.run)) in
          let turn : Turn image plan tasks u bk.words bk.chains (with_event (with_pc_advanced 4 (with_context_restored m false)) e) =
          comes_back (with_event (with_pc_advanced 4 (with_context_restored v false)) e) bk.seen 17 (omega arith) (omega arith) (next_pc 16 (omega arith) pc) off (view_back l used is_l j seen2 is_s (with_event (with_pc_advanced 4 (with_context_restored m false)) e) refl refl refl refl (with_event (with_pc_advanced 4 (with_context_restored v false)) e) refl run)
          (record { pc = ap (λ q. wrapping_sum q 4) beside.pc; lcx = beside.lcx; ccpn = beside.ccpn; ie = beside.ie; biv = beside.biv; btv = beside.btv; isp = beside.isp; core = beside.core; end = beside.end })
          (λ _. record { d = low.d; a = low.a; back = low.back })
          (paused_back l used is_l j seen2 is_s (with_event (with_pc_advanced 4 (with_context_restored m false)) e) refl refl refl refl) (now_back l used is_l j seen2 is_s (with_event (with_pc_advanced 4 (with_context_restored m false)) e) refl refl refl refl)
          in
          subst (Goes image plan tasks needs) (sym m_is)
          (all_back l used is_l j seen2 is_s (with_event (with_pc_advanced 4 (with_context_restored m false)) e) refl refl refl refl (with_event (with_pc_advanced 4 (with_context_restored v false)) e) refl refl refl beside.lcx run (subst IsMachine m_is after_machine) k.running
          (record { lcx = k.lcx; biv = k.biv; btv = k.btv; isp = k.isp; core = k.core }) k.globals turn))

      -- instruction 17 returns: the view and the machine are alike again
      pub comes_home : m.pc ≡ tasks.switch + 4 * 17 → SameLower m v → Goes image plan tasks needs (step m e)
      comes_home pc low =
          let b = view_moves own m.mem v of seen pause.view_free pause.view_links own_areas view_off m e fits Ret (view_at 17 pc Ret (view_code_17 image plan tasks wd.are wd.has u)) tt
          (λ none2 there. AreFirst-left tasks (frames_after_step v e ((of.run).frame ∷ (of.run).behind)) (first_returns tasks v e (of.run).frame (of.run).behind none2 there (of.run).first))
          in
          let running2 = view_running wd.ok wd.are wd.fit own (certs u) (wd.judged u own) (view_few wd u own) v of.run in
          let v_does : (after_instruction v e Ret 4).end ≡ Running = sym (ap (λ (y : Machine). y.end) (done-is v e Ret 4 b.none b.at)) ∙ done_runs v e running2 b.lives in
          by_context true (back_runs v true (λ r. record r { pc = a11 v / 2 * 2 }) (sym (ap (λ (y : Machine). y.end) (does-ret v e 4)) ∙ v_does))
          (λ l used is_l j seen2 is_s kind.
          let t = twins_here l used is_l j seen2 is_s in
          let at = at_code 17 pc Ret (code_17 image plan tasks wd.are wd.has) in
          let m_does : after_instruction m e Ret 4 ≡ record (with_context_restored m true) { pc = a11 m / 2 * 2 } =
          does-ret m e 4 ∙ ap (λ s. if_running s (λ r. record r { pc = a11 m / 2 * 2 })) (restore_stands wd.ok m v k.words words_of_view k.running beside l used is_l j seen2 t true kind)
          ∙ then_-running (with_context_restored m true) (λ r. record r { pc = a11 m / 2 * 2 }) (restored_end m true ∙ k.running)
          in
          let m_is : step m e ≡ with_event (record (with_context_restored m true) { pc = a11 m / 2 * 2 }) e =
          step_does m e Ret 4 k.running none at (ap (λ (y : Machine). y.end) m_does ∙ k.running) ∙ ap (λ (y : Machine). with_event y e) m_does
          in
          let mem_is : (step m e).mem ≡ (with_area_released m).mem = ap (λ (y : Machine). y.mem) m_is in
          let pcxi_is : (step m e).pcxi ≡ (with_area_released m).pcxi = ap (λ (y : Machine). y.pcxi) m_is in
          let fcx_is : (step m e).fcx ≡ (with_area_released m).fcx = ap (λ (y : Machine). y.fcx) m_is in
          let lcx_is : (step m e).lcx ≡ m.lcx = ap (λ (y : Machine). y.lcx) m_is in
          let same : step v e ≡ seen_as (step m e) (with_area_released v).mem (with_area_released v).pcxi (with_area_released v).fcx =
          switched_back wd.ok m v k.words words_of_view k.running beside l used is_l j seen2 t low kind e e none refl refl 4 at b.at
          in
          let run : ViewRun image plan tasks u (seen_as (step m e) (with_area_released v).mem (with_area_released v).pcxi (with_area_released v).fcx) = subst (ViewRun image plan tasks u) same (b.next).run in
          let bk = back l used is_l j seen2 is_s (step m e) mem_is pcxi_is fcx_is lcx_is in
          let all = first_returns tasks v e (of.run).frame (of.run).behind b.none b.at (of.run).first in
          let enters : IsInRoutine tasks (step v e).pc → (step v e).pc ≡ tasks.switch =
          view_enters wd.ok wd.are wd.fit own (certs u) (wd.judged u own) (view_few wd u own) (step v e) (b.next).run (subst (AreFirst tasks) (sym (b.next).frames_are) all)
          in
          let turn : Turn image plan tasks u bk.words bk.chains (step m e) =
          runs (with_area_released v).mem (with_area_released v).pcxi (with_area_released v).fcx bk.seen
          (view_back l used is_l j seen2 is_s (step m e) mem_is pcxi_is fcx_is lcx_is (seen_as (step m e) (with_area_released v).mem (with_area_released v).pcxi (with_area_released v).fcx) refl run)
          (paused_back l used is_l j seen2 is_s (step m e) mem_is pcxi_is fcx_is lcx_is) (now_back l used is_l j seen2 is_s (step m e) mem_is pcxi_is fcx_is lcx_is)
          (subst (λ (y : Machine). IsInRoutine tasks y.pc → y.pc ≡ tasks.switch) same enters)
          in
          let c = run.core in
          all_back l used is_l j seen2 is_s (step m e) mem_is pcxi_is fcx_is lcx_is (seen_as (step m e) (with_area_released v).mem (with_area_released v).pcxi (with_area_released v).fcx) refl refl refl refl run after_machine (ap (λ (y : Machine). y.end) m_is ∙ k.running)
          (record { lcx = c.lcx; biv = c.biv; btv = c.btv; isp = c.isp; core = c.core })
          (view_globals wd.ok wd.are wd.fit own (certs u) (wd.judged u own) (view_few wd u own) (seen_as (step m e) (with_area_released v).mem (with_area_released v).pcxi (with_area_released v).fcx) run) turn)
