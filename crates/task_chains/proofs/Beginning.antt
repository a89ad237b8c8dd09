-- A task's first turn: its two contexts are restored, and its view starts.
use Rattle.std.proofs.Common.{◌≡◌, ◌≢◌, ℕ, zero, suc, ◌+◌, ◌-◌, ◌*◌, ◌/◌, ◌%◌, ◌^◌, ◌<◌, ◌≤◌, inl, inr, Bool, true, false, not, List, [], ◌∷◌, length, get_or, Some, Ok, refl, sym, ap, ◌∙◌, subst, arith, ◌==◌}
use Rattle.std.proofs.lemmas.Bool.{cases_lt}
use Rattle.std.specs.FinMap as finite
use Rattle.csa_chain.specs.MemoryBytes.{Memory, is_mapped, with_words, HasOnlyBytes}
use Rattle.csa_chain.specs.Chain.{link_in, link_address, is_area_mapped, area_word, word_with_link}
use Rattle.csa_chain.specs.ContextWords.{pcxi_word_of, ul_of}
use Rattle.csa_chain.specs.SeveralChains.{occurrences_of, with_chain, with_chain_word}
use Rattle.csa_chain.proofs.ChainLaws.{Links, SameAreas, area_word_same, SameArea-written, SameAreas-written}
use Rattle.csa_chain.proofs.ContextLaws.{ul_of-pcxi_word, link_in-with_link, with_link-lt, link_in-lt}
use Rattle.csa_chain.proofs.MemoryLaws.{is_mapped-with_words}
use Rattle.csa_chain.proofs.SeveralLaws.{cond_same, cond_other, sum_below-at, times-first, owned_avoids, Share-restored, restored_links, restored_free}
use Rattle.csa_chain.proofs.WordLaws.{area_word-lt}
use Rattle.elf_image.specs.Images.{ImageData, image_byte}
use Rattle.tcd_base.specs.Ranges.{IsInOneRange}
use Rattle.tcd_plan.specs.PlanData.{PlanData, IsPlan}
use Rattle.tcd_plan.specs.MappedAddresses.{IsInAreas}
use Rattle.tc_isa.specs.Rows.{is_32_bit_row}
use Rattle.tc_isa.specs.Spelling.{four_or_two_bytes, row_word}
use Rattle.tc_isa.specs.Insts.{inst_fields}
use Rattle.tc_isa.proofs.TableFacts.{row_at}
use Rattle.tc_encode.proofs.Bytes.{word-lt, short-lt}
use Rattle.tc_isa.specs.declared.shapes.Shape.{Shape}
use Rattle.tc_isa.specs.declared.shapes.Shape.TheVariants.{Ret, Rslcx, Nothing}
use Rattle.tc_machine.specs.declared.events.Event.{Event}
use Rattle.tc_machine.specs.declared.events.End.TheVariants.{Running}
use Rattle.tc_machine.specs.declared.state.Machine.{Machine}
use Rattle.tc_machine.specs.Machine.{a11, is_interrupt_stack_used, if_running, psw_with_status, IsMachine}
use Rattle.tc_machine.specs.Instructions.{wrapping_sum, with_pc_advanced, after_instruction}
use Rattle.tc_machine.specs.SavesAndRestores.{is_last_context_of_kind, with_area_released, with_context_restored, restore}
use Rattle.tc_machine.specs.Fetching.{fetched_instruction}
use Rattle.tc_machine.specs.Stepping.{is_interrupt_taken, step}
use Rattle.tc_machine.specs.PlanAreas.{first_link, plan_areas}
use Rattle.tc_machine.specs.Safe.{Fits}
use Rattle.tc_machine.specs.Starting.{HasGlobals, Starts}
use Rattle.tc_mem.specs.PlanMemory.{HoldsRom, IsPlanMemory}
use Rattle.tc_machine.proofs.Areas.{Areas-start}
use Rattle.tc_machine.proofs.Kept.{none_when_off}
use Rattle.tc_machine.proofs.Saves.{restore-is, then_-running}
use Rattle.tc_machine.proofs.Stays.{stays_step, irq_lt}
use Rattle.tc_machine.proofs.Steps.{with_event, step_does, does-nothing, does-ret}
use Rattle.cfg_recover.proofs.EntryLaws.{reg_lt}
use Rattle.cfg_recover.proofs.Points.{does-rslcx}
use Rattle.cfg_recover.specs.Code.{IsCode}
use Rattle.depth_cert.specs.Certs.{CertData}
use Rattle.task_chains.specs.Tasks.{TasksData, AreTasks, count, task_at}
use Rattle.task_chains.specs.SwitchRoutine.{HasRoutine}
use Rattle.task_chains.specs.Views.{view_image_of, view_plan_of}
use Rattle.task_chains.specs.TaskStarts.{current_task, task_upper_area, task_lower_area, IsTaskReady}
use Rattle.task_chains.proofs.Alike.{seen_as, area_at, outside_area}
use Rattle.task_chains.proofs.Backs.{restored_end}
use Rattle.task_chains.proofs.Going.{Goes}
use Rattle.task_chains.proofs.Invariant.{Turn, runs, begins, AllKept}
use Rattle.task_chains.proofs.Joined.{World, block_same, kept, view_few, view_ok, all_from}
use Rattle.task_chains.proofs.Outside.{fetched_code}
use Rattle.task_chains.proofs.RoutineCode.{code_15, code_16, code_17, some_view_code}
use Rattle.task_chains.proofs.Switch.{Shared}
use Rattle.task_chains.proofs.Turning.{routine_fits}
use Rattle.task_chains.proofs.Twins.{SameContexts, areas_once}
use Rattle.task_chains.proofs.ViewBegins.{Begun, view_begins}
use Rattle.task_chains.proofs.ViewEvents.{IsKept}
use Rattle.task_chains.proofs.ViewImage.{view_byte_outside}
use Rattle.task_chains.proofs.ViewRun.{HasCore, ViewRun-start, ViewRun-start-first, view_point, view_enters}
use Rattle.task_chains.proofs.ViewStart.{IsViewStart, view_memory, view_starts}
use Rattle.task_chains.proofs.Levels.{areas_same}

-- ---- a view's bytes are bytes
abbrev AreSmall : List ℕ → Type 0
AreSmall [] = Unit {0}
AreSmall (b ∷ bs) = (b < 2 ^ 8) × AreSmall bs

small_spelled : (long : Bool) (w : ℕ) → w < 2 ^ 32 → (long ≡ false → w < 2 ^ 16) → AreSmall (four_or_two_bytes long w)
small_spelled true w lt short = (omega arith, (omega arith, (omega arith, (omega arith, tt))))
small_spelled false w lt short = let h = short refl in (omega arith, (omega arith, tt))

small_at : (bs : List ℕ) (k : ℕ) → AreSmall bs → get_or bs k 0 < 2 ^ 8
small_at [] k h = omega arith
small_at (b ∷ bs) zero h = h.0
small_at (b ∷ bs) (suc k) h = small_at bs k h.1

small_code : (image : ImageData) (plan : PlanData) (p : ℕ) (shape : Shape) (size : ℕ) → (c : IsCode image plan p shape size) → AreSmall c.bytes
small_code image plan p shape size c =
    let s = (c.spells).spelled in
    let i = s.inst in
    let row = i.row in
    let r = row_at (c.inst).row row i.at in
    let f = inst_fields c.inst in
    subst AreSmall (sym s.is) (small_spelled (is_32_bit_row row) (row_word row f) (word-lt row.form row.op1 row.op2 f r.first r.second (i.fits).below) (λ e. short-lt row.form row.op1 row.op2 f r.first r.second (i.fits).below (sym r.size ∙ e)))

pub view_small : (image : ImageData) (plan : PlanData) (tasks : TasksData) → AreTasks tasks → HasRoutine image plan tasks → (u : ℕ) (mem : Memory) → HoldsRom image plan mem → HasOnlyBytes mem → (x b : ℕ) → IsInOneRange x 1 plan.rom → image_byte (view_image_of image tasks u) x ≡ Some b → b < 2 ^ 8
view_small image plan tasks are has u mem rom bytes x b in_rom held =
    elim (cases_lt x tasks.switch) [
      | inl low ↦ bytes x b (rom x b in_rom (sym (view_byte_outside image tasks u x (inl low)) ∙ held))
      | inr from ↦ elim (cases_lt x (tasks.switch + 72)) [
        | inr high ↦ bytes x b (rom x b in_rom (sym (view_byte_outside image tasks u x (inr high)) ∙ held))
        | inl within ↦
            let c = some_view_code image plan tasks are has u ((x - tasks.switch) / 4) (omega arith) in
            let at : tasks.switch + 4 * ((x - tasks.switch) / 4) + (x - tasks.switch) % 4 ≡ x = omega arith in
            let code = c.1 in
            let there : image_byte (view_image_of image tasks u) x ≡ Some (get_or code.bytes ((x - tasks.switch) % 4) 0) =
            ap (image_byte (view_image_of image tasks u)) (sym at) ∙ (code.spells).held ((x - tasks.switch) % 4) (let z = code.sized in omega arith)
            in
            let both_are : Some (get_or code.bytes ((x - tasks.switch) % 4) 0) ≡ Some b = sym there ∙ held in
            let same : get_or code.bytes ((x - tasks.switch) % 4) 0 ≡ b = cc in
            subst (λ y. y < 2 ^ 8) same (small_at code.bytes ((x - tasks.switch) % 4) (small_code (view_image_of image tasks u) plan (tasks.switch + 4 * ((x - tasks.switch) / 4)) c.0 4 code))
      ]
    ]

-- ---- a restore by the owner of PCXI
-- what the tasks share, and what is unchanged
record GivenBack (plan : PlanData) (n u : ℕ) (word_of : ℕ → ℕ) (chain_of : ℕ → List ℕ) (m x : Machine) (l : ℕ) (used : List ℕ) : Type 0 where
  pub shared : Shared plan n u (with_chain_word word_of u (area_word m.mem l 0)) (with_chain chain_of u used) x.mem x.pcxi x.fcx x.lcx
  pub others : (w : ℕ) → w < n → w ≢ u → (with_chain_word word_of u (area_word m.mem l 0) w ≡ word_of w) × (with_chain chain_of u used w ≡ chain_of w) × SameAreas m.mem x.mem (chain_of w)
  pub outside : (y : ℕ) → (IsInAreas plan y → ⊥) → finite.get x.mem y ≡ finite.get m.mem y
  pub mapped : (y : ℕ) → is_mapped x.mem y ≡ is_mapped m.mem y

module _ {plan : PlanData} (ok : IsPlan plan) {n u : ℕ} {word_of : ℕ → ℕ} {chain_of : ℕ → List ℕ} (m : Machine) (s : Shared plan n u word_of chain_of m.mem m.pcxi m.fcx m.lcx) (bytes : HasOnlyBytes m.mem) (l : ℕ) (used : List ℕ) (is : chain_of u ≡ l ∷ used) where
  links_here : Links m.mem (word_of u) (l ∷ used)
  links_here = subst (Links m.mem (word_of u)) is (s.links u s.own)

  here : link_in m.pcxi ≡ l
  here = ap link_in (sym s.first) ∙ links_here.1

  small : l < 2 ^ 20
  small = subst (λ x. x < 2 ^ 20) here (link_in-lt m.pcxi)

  stands : (upper : Bool) → is_last_context_of_kind m upper ≡ true → restore m upper ≡ with_context_restored m upper
  stands upper kind = restore-is m upper (λ e. links_here.0 (sym here ∙ e)) kind (ap (is_area_mapped m.mem) here ∙ links_here.2)

  given_back : (x : Machine) → x.mem ≡ (with_area_released m).mem → x.pcxi ≡ (with_area_released m).pcxi → x.fcx ≡ (with_area_released m).fcx → x.lcx ≡ m.lcx → GivenBack plan n u word_of chain_of m x l used
  given_back x mem_is pcxi_is fcx_is lcx_is =
      let to_l = link_in-with_link m.fcx l small in
      let once = areas_once plan in
      let all = (s.share).each l in
      let owned = sum_below-at n (λ w. occurrences_of l (chain_of w)) u s.own in
      let first = times-first l used in
      let first_is : occurrences_of l (chain_of u) ≡ occurrences_of l (l ∷ used) = ap (occurrences_of l) is in
      let at = area_at (first_link plan) plan.areas l (λ none. omega arith) in
      let mem_at : x.mem ≡ with_words m.mem (link_address l) (m.fcx ∷ []) = mem_is ∙ ap (λ y. with_words m.mem (link_address y) (m.fcx ∷ [])) here in
      let pcxi_at : x.pcxi ≡ area_word m.mem l 0 = pcxi_is ∙ ap (λ y. area_word m.mem y 0) here in
      let fcx_at : x.fcx ≡ word_with_link m.fcx l = fcx_is ∙ ap (word_with_link m.fcx) here in
      let new : Shared plan n u (with_chain_word word_of u (area_word m.mem l 0)) (with_chain chain_of u used) (with_words m.mem (link_address l) (m.fcx ∷ [])) (area_word m.mem l 0) (word_with_link m.fcx l) m.lcx =
      record {
        own = s.own;
        first = cond_same u u (area_word m.mem l 0) (word_of u) refl;
        links = restored_links m.mem n u m.fcx l word_of chain_of used s.free (plan_areas plan) s.links s.free_links s.share once s.own is s.fcx_word (word_with_link m.fcx l) to_l;
        free = l ∷ s.free;
        free_links = restored_free m.mem n u m.fcx l word_of chain_of used s.free (plan_areas plan) s.links s.free_links s.share once s.own is s.fcx_word (word_with_link m.fcx l) to_l;
        share = Share-restored n u chain_of l used s.free (plan_areas plan) s.own is s.share;
        front = l ∷ s.front;
        reserved = ap (λ ls. l ∷ ls) s.reserved;
        lcx_is = s.lcx_is;
        pcxi_word = area_word-lt m.mem bytes l 0;
        fcx_word = with_link-lt m.fcx l s.fcx_word small;
      }
      in
      record {
        shared = subst (λ y. Shared plan n u (with_chain_word word_of u (area_word m.mem l 0)) (with_chain chain_of u used) y x.pcxi x.fcx x.lcx) (sym mem_at)
            (subst (λ y. Shared plan n u (with_chain_word word_of u (area_word m.mem l 0)) (with_chain chain_of u used) (with_words m.mem (link_address l) (m.fcx ∷ [])) y x.fcx x.lcx) (sym pcxi_at)
            (subst (λ y. Shared plan n u (with_chain_word word_of u (area_word m.mem l 0)) (with_chain chain_of u used) (with_words m.mem (link_address l) (m.fcx ∷ [])) (area_word m.mem l 0) y x.lcx) (sym fcx_at)
            (subst (λ y. Shared plan n u (with_chain_word word_of u (area_word m.mem l 0)) (with_chain chain_of u used) (with_words m.mem (link_address l) (m.fcx ∷ [])) (area_word m.mem l 0) (word_with_link m.fcx l) y) (sym lcx_is) new)));
        others = λ w lt apart. (
          cond_other w u (area_word m.mem l 0) (word_of w) apart,
          cond_other w u used (chain_of w) apart,
          subst (λ y. SameAreas m.mem y (chain_of w)) (sym mem_at) (SameAreas-written m.mem l (chain_of w) (m.fcx ∷ []) (omega arith) (owned_avoids n chain_of u l used s.free (plan_areas plan) s.share once s.own is w lt apart)),
        );
        outside = λ y out. ap (λ q. finite.get q y) mem_at ∙ outside_area ok m.mem l at.0 at.2 at.1 (m.fcx ∷ []) (omega arith) y out;
        mapped = λ y. ap (λ q. is_mapped q y) mem_at ∙ is_mapped-with_words m.mem (link_address l) (m.fcx ∷ []) y;
      }

  -- the words of another area
  other_area : (x : Machine) → x.mem ≡ (with_area_released m).mem → (k i : ℕ) → k ≢ l → i < 16 → area_word x.mem k i ≡ area_word m.mem k i
  other_area x mem_is k i apart lt =
      let mem_at : x.mem ≡ with_words m.mem (link_address l) (m.fcx ∷ []) = mem_is ∙ ap (λ y. with_words m.mem (link_address y) (m.fcx ∷ [])) here in
      ap (λ q. area_word q k i) mem_at ∙ area_word_same (SameArea-written m.mem l k (m.fcx ∷ []) (omega arith) apart) i lt

-- ---- PSW with another status
status_is : (psw status : ℕ) → is_interrupt_stack_used (psw_with_status psw status) ≡ is_interrupt_stack_used psw
status_is psw status = ap (λ x. x == 1) (let e : (status * 2 ^ 24 + psw % 2 ^ 24) / 2 ^ 9 % 2 ≡ psw / 2 ^ 9 % 2 = omega arith in e)

status_io : (psw status : ℕ) → psw_with_status psw status / 2 ^ 10 % 4 ≡ psw / 2 ^ 10 % 4
status_io psw status = omega arith

module _ {image : ImageData} {plan : PlanData} {tasks : TasksData} {certs : ℕ → CertData} {needs : ℕ → ℕ} (wd : World image plan tasks certs needs) where
  -- ---- a view that starts in a memory of the machine's
  module _ {u : ℕ} (own : u < count tasks) (x : Machine) (memory : IsPlanMemory plan x.mem) (rom : HoldsRom image plan x.mem) (bytes : HasOnlyBytes x.mem) where
    pub start_memory : Memory
    start_memory = view_memory wd.ok image (view_image_of image tasks u) tasks u x.mem memory rom bytes (view_byte_outside image tasks u) (view_small image plan tasks wd.are wd.has u x.mem rom bytes)

    pub start_is : IsViewStart (view_image_of image tasks u) plan tasks u x.mem start_memory
    unfolding start_memory
    start_is = view_starts wd.ok image (view_image_of image tasks u) tasks u x.mem memory rom bytes (view_byte_outside image tasks u) (view_small image plan tasks wd.are wd.has u x.mem rom bytes)

    -- the turn of a task whose view starts here
    pub start_turn : (word_of : ℕ → ℕ) (chain_of : ℕ → List ℕ) → Starts (view_image_of image tasks u) (view_plan_of plan tasks u) (seen_as x start_memory 0 (first_link plan)) → chain_of u ≡ [] → x.pcxi ≡ 0 → current_task tasks x.mem ≡ u
        → Turn image plan tasks u word_of chain_of x
    start_turn word_of chain_of s none zero_pcxi now =
        let v = seen_as x start_memory 0 (first_link plan) in
        let st = start_is in
        let run = ViewRun-start image plan tasks u v s in
        let areas = Areas-start (view_image_of image tasks u) (view_plan_of plan tasks u) (view_ok wd u own) v s in
        runs start_memory 0 (first_link plan) [] (record { run = run; memory = st.memory; rom = st.rom; same_rom = st.same })
        (record {
          same = subst (λ ls. SameContexts x.mem x.pcxi ls start_memory 0 []) (sym none) (ap (λ q. q / 2 ^ 20) zero_pcxi);
          view_word = omega arith;
          view_links = refl;
          view_free = plan_areas plan;
          view_areas = record { links = areas.links; whole = areas.whole; fcx_word = areas.fcx_word; lcx_is = areas.lcx_is };
        })
        now (view_enters wd.ok wd.are wd.fit own (certs u) (wd.judged u own) (view_few wd u own) v run (ViewRun-start-first image plan tasks u v s))

    -- the entry is even, since the certificate's point there has code
    pub entry_even : Starts (view_image_of image tasks u) (view_plan_of plan tasks u) (seen_as x start_memory 0 (first_link plan)) → x.pc % 2 ≡ 0
    entry_even s =
        let v = seen_as x start_memory 0 (first_link plan) in
        ((view_point wd.ok wd.are wd.fit own (certs u) (wd.judged u own) (view_few wd u own) v (ViewRun-start image plan tasks u v s)).code).even

  -- ---- a task's first turn
  module _ (m : Machine) {u : ℕ} {word_of : ℕ → ℕ} {chain_of : ℕ → List ℕ} (k : AllKept image plan tasks needs m u word_of chain_of) (later : 1 ≤ u) (off : m.ie ≡ false) (level : m.ccpn ≡ plan.start_ccpn) (now : current_task tasks m.mem ≡ u) (e : Event) (fits : Fits plan m e) where
    abbrev own : u < count tasks
    own = (k.shared).own

    none : is_interrupt_taken m e ≡ false
    none = none_when_off m e off

    at_code : (i : ℕ) → m.pc ≡ tasks.switch + 4 * i → (shape : Shape) → IsCode image plan (tasks.switch + 4 * i) shape 4 → fetched_instruction m ≡ Ok (shape, 4)
    at_code i pc shape c = fetched_code image plan m shape 4 wd.ok k.rom (subst (λ x. IsCode image plan x shape 4) (sym pc) c)

    next_pc : (i : ℕ) → i < 17 → m.pc ≡ tasks.switch + 4 * i → wrapping_sum m.pc 4 ≡ tasks.switch + 4 * suc i
    next_pc i lt pc = let f = routine_fits wd in omega arith

    after_machine : IsMachine (step m e)
    after_machine = stays_step m e k.words (irq_lt wd.ok m e fits) fits.input fits.status

    -- instruction 15 does nothing
    pub begins_on : m.pc ≡ tasks.switch + 4 * 15 → IsTaskReady m.core plan tasks m.mem u → m.pcxi ≡ pcxi_word_of m.core 0 false false (task_lower_area plan u) → chain_of u ≡ task_lower_area plan u ∷ task_upper_area plan u ∷ [] → Goes image plan tasks needs (step m e)
    begins_on pc is word links =
        let m_is : step m e ≡ with_event (with_pc_advanced 4 m) e =
        step_does m e Nothing 4 k.running none (at_code 15 pc Nothing (code_15 image plan tasks wd.are wd.has)) (ap (λ (y : Machine). y.end) (does-nothing m e 4) ∙ k.running) ∙ ap (λ (y : Machine). with_event y e) (does-nothing m e 4)
        in
        let turn : Turn image plan tasks u word_of chain_of (with_event (with_pc_advanced 4 m) e) =
        begins 16 (omega arith) (omega arith) (next_pc 15 (omega arith) pc) off level later (λ _. (is, word, links)) (λ a. absurd (omega arith)) now
        in
        subst (Goes image plan tasks needs) (sym m_is)
        (record {
          owner = u;
          words = word_of;
          chains = chain_of;
          kept = all_from wd m (with_event (with_pc_advanced 4 m) e) k word_of chain_of k.shared (subst IsMachine m_is after_machine) k.running (record { lcx = k.lcx; biv = k.biv; btv = k.btv; isp = k.isp; core = k.core }) k.globals (λ y. refl) (λ y in_rom. refl)
              (λ j lt apart. (refl, refl, areas_same m.mem (chain_of j))) (λ j lt apart. refl) (k.needs_kept u own) turn;
        })

    -- ---- a context comes back
    is_kept : (x : ℕ) → IsKept plan tasks x → IsInAreas plan x → ⊥
    is_kept = kept wd.ok wd.fit

    module _ (l : ℕ) (used : List ℕ) (is_l : chain_of u ≡ l ∷ used) (x : Machine) (mem_is : x.mem ≡ (with_area_released m).mem) (pcxi_is : x.pcxi ≡ (with_area_released m).pcxi) (fcx_is : x.fcx ≡ (with_area_released m).fcx) (lcx_is : x.lcx ≡ m.lcx) where
      gives : GivenBack plan (count tasks) u word_of chain_of m x l used
      gives = given_back wd.ok m k.shared (k.words).bytes l used is_l x mem_is pcxi_is fcx_is lcx_is

      now_back : current_task tasks x.mem ≡ u
      now_back = block_same tasks m.mem x.mem (λ y low high. gives.outside y (is_kept y (inr (low, high)))) (count tasks) (omega arith) ∙ now

      memory_back : IsPlanMemory plan x.mem
      memory_back y = (λ h. (k.memory y).0 (sym (gives.mapped y) ∙ h), λ by. gives.mapped y ∙ (k.memory y).1 by)

      rom_back : HoldsRom image plan x.mem
      rom_back y b in_rom held = gives.outside y (is_kept y (inl in_rom)) ∙ k.rom y b in_rom held

      all_back : IsMachine x → x.end ≡ Running → HasCore plan x → HasGlobals plan x.a → Turn image plan tasks u (with_chain_word word_of u (area_word m.mem l 0)) (with_chain chain_of u used) x → Goes image plan tasks needs x
      all_back is_machine running core globals2 turn =
          let long : length (chain_of u) ≡ suc (length used) = ap length is_l in
          let most = k.needs_kept u own in
          let here : length (with_chain chain_of u used u) ≡ length used = ap length (cond_same u u used (chain_of u) refl) in
          record {
            owner = u;
            words = with_chain_word word_of u (area_word m.mem l 0);
            chains = with_chain chain_of u used;
            kept = all_from wd m x k (with_chain_word word_of u (area_word m.mem l 0)) (with_chain chain_of u used) gives.shared is_machine running core globals2 gives.mapped (λ y in_rom. gives.outside y (is_kept y (inl in_rom))) gives.others
                (λ w lt apart. block_same tasks m.mem x.mem (λ y low high. gives.outside y (is_kept y (inr (low, high)))) w (omega arith)) (omega arith) turn;
          }

    -- instruction 16 restores the lower context
    pub begins_lower : m.pc ≡ tasks.switch + 4 * 16 → IsTaskReady m.core plan tasks m.mem u → m.pcxi ≡ pcxi_word_of m.core 0 false false (task_lower_area plan u) → chain_of u ≡ task_lower_area plan u ∷ task_upper_area plan u ∷ [] → Goes image plan tasks needs (step m e)
    begins_lower pc is word links =
        let low = task_lower_area plan u in
        let up = task_upper_area plan u in
        let bytes = (k.words).bytes in
        let at = here wd.ok m k.shared (k.words).bytes (task_lower_area plan u) (task_upper_area plan u ∷ []) links in
        let low_small = small wd.ok m k.shared (k.words).bytes (task_lower_area plan u) (task_upper_area plan u ∷ []) links in
        let kind : is_last_context_of_kind m false ≡ true = ap (λ w. not (ul_of m.core w)) word ∙ ap not (ul_of-pcxi_word m.core 0 false false (task_lower_area plan u) low_small) in
        let m_does : after_instruction m e Rslcx 4 ≡ with_pc_advanced 4 (with_context_restored m false) =
        does-rslcx m e 4 ∙ ap (λ s. if_running s (with_pc_advanced 4)) (stands wd.ok m k.shared (k.words).bytes (task_lower_area plan u) (task_upper_area plan u ∷ []) links false kind) ∙ then_-running (with_context_restored m false) (with_pc_advanced 4) (restored_end m false ∙ k.running)
        in
        let m_is : step m e ≡ with_event (with_pc_advanced 4 (with_context_restored m false)) e =
        step_does m e Rslcx 4 k.running none (at_code 16 pc Rslcx (code_16 image plan tasks wd.are wd.has)) (ap (λ (y : Machine). y.end) m_does ∙ k.running) ∙ ap (λ (y : Machine). with_event y e) m_does
        in
        let x : Machine = with_event (with_pc_advanced 4 (with_context_restored m false)) e in
        let word_same : (i : ℕ) → i < 16 → area_word (with_area_released m).mem (task_upper_area plan u) i ≡ area_word m.mem (task_upper_area plan u) i =
        λ i lt. other_area wd.ok m k.shared (k.words).bytes (task_lower_area plan u) (task_upper_area plan u ∷ []) links (with_area_released m) refl (task_upper_area plan u) i (λ e. omega arith) lt
        in
        let turn : Turn image plan tasks u (with_chain_word word_of u (area_word m.mem (task_lower_area plan u) 0)) (with_chain chain_of u (task_upper_area plan u ∷ [])) (with_event (with_pc_advanced 4 (with_context_restored m false)) e) =
        begins 17 (omega arith) (omega arith) (next_pc 16 (omega arith) pc) off level later (λ a. absurd (omega arith))
        (λ _. (
          cond_same u u (task_upper_area plan u ∷ []) (chain_of u) refl,
          ap (λ y. ul_of m.core (area_word m.mem y 0)) at ∙ is.ul,
          ap (λ y. area_word m.mem y 1) at ∙ is.entry,
          word_same 0 (omega arith) ∙ is.ends,
          ap (λ y. y / 2 ^ 10 % 4) (word_same 1 (omega arith)) ∙ is.io,
          ap is_interrupt_stack_used (word_same 1 (omega arith)) ∙ is.is,
          word_same 2 (omega arith) ∙ is.sp,
        ))
        (now_back (task_lower_area plan u) (task_upper_area plan u ∷ []) links (with_event (with_pc_advanced 4 (with_context_restored m false)) e) refl refl refl refl)
        in
        subst (Goes image plan tasks needs) (sym m_is)
        (all_back (task_lower_area plan u) (task_upper_area plan u ∷ []) links (with_event (with_pc_advanced 4 (with_context_restored m false)) e) refl refl refl refl (subst IsMachine m_is after_machine) k.running
        (record { lcx = k.lcx; biv = k.biv; btv = k.btv; isp = k.isp; core = k.core }) k.globals turn)

    -- instruction 17 returns to the task's entry, and its view starts
    pub begins_home : m.pc ≡ tasks.switch + 4 * 17 → chain_of u ≡ task_upper_area plan u ∷ [] → ul_of m.core m.pcxi ≡ true → a11 m ≡ (task_at tasks u).entry → area_word m.mem (task_upper_area plan u) 0 ≡ 0 → area_word m.mem (task_upper_area plan u) 1 / 2 ^ 10 % 4 ≡ 2
        → is_interrupt_stack_used (area_word m.mem (task_upper_area plan u) 1) ≡ false → area_word m.mem (task_upper_area plan u) 2 ≡ (task_at tasks u).sp → Goes image plan tasks needs (step m e)
    begins_home pc links kind entry ends io is sp =
        let at = here wd.ok m k.shared (k.words).bytes (task_upper_area plan u) [] links in
        let m_does : after_instruction m e Ret 4 ≡ record (with_context_restored m true) { pc = a11 m / 2 * 2 } =
        does-ret m e 4 ∙ ap (λ s. if_running s (λ r. record r { pc = a11 m / 2 * 2 })) (stands wd.ok m k.shared (k.words).bytes (task_upper_area plan u) [] links true kind) ∙ then_-running (with_context_restored m true) (λ r. record r { pc = a11 m / 2 * 2 }) (restored_end m true ∙ k.running)
        in
        let m_is : step m e ≡ with_event (record (with_context_restored m true) { pc = a11 m / 2 * 2 }) e =
        step_does m e Ret 4 k.running none (at_code 17 pc Ret (code_17 image plan tasks wd.are wd.has)) (ap (λ (y : Machine). y.end) m_does ∙ k.running) ∙ ap (λ (y : Machine). with_event y e) m_does
        in
        let words : IsMachine (with_event (record (with_context_restored m true) { pc = a11 m / 2 * 2 }) e) = subst IsMachine m_is after_machine in
        let entry_lt : (task_at tasks u).entry < 2 ^ 32 = subst (λ y. y < 2 ^ 32) entry (reg_lt m k.words 27) in
        let begun : (q : ℕ) → q ≡ (task_at tasks u).entry → Begun plan tasks u (with_event (record (with_context_restored m true) { pc = q }) e) =
        λ q q_is.
        record {
          words = record { d = words.d; a = words.a; pc = subst (λ y. y < 2 ^ 32) (sym q_is) entry_lt; psw = words.psw; pcxi = words.pcxi; fcx = words.fcx; lcx = words.lcx; ccpn = words.ccpn; biv = words.biv; btv = words.btv; isp = words.isp; bytes = words.bytes };
          lcx = k.lcx;
          pc = q_is;
          sp = ap (λ y. area_word m.mem y 2) at ∙ sp;
          globals = k.globals;
          biv = k.biv;
          btv = k.btv;
          isp = k.isp;
          ie = off;
          ccpn = level;
          is = status_is (area_word m.mem (link_in m.pcxi) 1) e.status ∙ ap (λ y. is_interrupt_stack_used (area_word m.mem y 1)) at ∙ is;
          io = status_io (area_word m.mem (link_in m.pcxi) 1) e.status ∙ ap (λ y. area_word m.mem y 1 / 2 ^ 10 % 4) at ∙ io;
          end = k.running;
          core = k.core;
        }
        in
        let x0 : Machine = with_event (record (with_context_restored m true) { pc = (task_at tasks u).entry }) e in
        let x : Machine = with_event (record (with_context_restored m true) { pc = a11 m / 2 * 2 }) e in
        let memory = memory_back (task_upper_area plan u) [] links x refl refl refl refl in
        let rom = rom_back (task_upper_area plan u) [] links x refl refl refl refl in
        let s0 = view_begins wd.ok image tasks wd.fit u later x0 (begun (task_at tasks u).entry refl) (start_memory own x0 memory rom words.bytes) (start_is own x0 memory rom words.bytes) in
        let even : (task_at tasks u).entry % 2 ≡ 0 = entry_even own x0 memory rom words.bytes s0 in
        let home : a11 m / 2 * 2 ≡ (task_at tasks u).entry = omega arith in
        let s = view_begins wd.ok image tasks wd.fit u later x (begun (a11 m / 2 * 2) home) (start_memory own x memory rom words.bytes) (start_is own x memory rom words.bytes) in
        let turn : Turn image plan tasks u (with_chain_word word_of u (area_word m.mem (task_upper_area plan u) 0)) (with_chain chain_of u []) (with_event (record (with_context_restored m true) { pc = a11 m / 2 * 2 }) e) =
        start_turn own x memory rom words.bytes (with_chain_word word_of u (area_word m.mem (task_upper_area plan u) 0)) (with_chain chain_of u []) s (cond_same u u [] (chain_of u) refl) (ap (λ y. area_word m.mem y 0) at ∙ ends)
        (now_back (task_upper_area plan u) [] links x refl refl refl refl)
        in
        subst (Goes image plan tasks needs) (sym m_is)
        (all_back (task_upper_area plan u) [] links x refl refl refl refl words k.running (record { lcx = k.lcx; biv = k.biv; btv = k.btv; isp = k.isp; core = k.core }) k.globals turn)
