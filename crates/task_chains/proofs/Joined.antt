-- One event of the running task: what follows for all tasks from its view's run and from both
-- states being alike.
use Rattle.std.proofs.Common.{◌≡◌, ◌≢◌, ℕ, ◌+◌, ◌-◌, ◌*◌, ◌<◌, ◌≤◌, ◌⊎◌, inl, inr, Bool, List, [], ◌∷◌, ◌++◌, length, map, sym, ap, ◌∙◌, subst, arith}
use Rattle.std.proofs.lemmas.Bool.{cases_eq, cases_lt}
use Rattle.std.specs.FinMap as finite
use Rattle.csa_chain.specs.MemoryBytes.{Memory, is_mapped}
use Rattle.csa_chain.proofs.ChainLaws.{SameAreas}
use Rattle.csa_chain.proofs.MemoryLaws.{word_at_agrees}
use Rattle.csa_chain.specs.SeveralChains.{sum_of_first}
use Rattle.csa_chain.proofs.SeveralLaws.{sum_below-at}
use Rattle.elf_image.specs.Images.{ImageData}
use Rattle.tcd_base.specs.Ranges.{IsInOneRange}
use Rattle.tcd_base.proofs.RangeLaws.{in_one, IsInOne-front, IsInOne-behind}
use Rattle.tcd_plan.specs.PlanData.{PlanData, IsPlan, areas_range}
use Rattle.tcd_plan.specs.MappedAddresses.{IsInAreas}
use Rattle.tcd_plan.proofs.ApartLaws.{all_apart-before, rom_apart}
use Rattle.tc_machine.specs.declared.events.Event.{Event}
use Rattle.tc_machine.specs.declared.events.End.TheVariants.{Running}
use Rattle.tc_machine.specs.declared.state.Machine.{Machine}
use Rattle.tc_machine.specs.SavesAndRestores.{save, with_context_saved}
use Rattle.tc_machine.specs.Stepping.{step}
use Rattle.tc_machine.specs.Safe.{Fits}
use Rattle.tc_machine.specs.Starting.{HasGlobals}
use Rattle.tc_machine.specs.Machine.{IsMachine}
use Rattle.tc_machine.proofs.Stays.{stays_step, irq_lt}
use Rattle.depth_cert.specs.Certs.{CertData}
use Rattle.cfg_recover.specs.RulesHoldOrFail.{certified_need}
use Rattle.task_chains.specs.Tasks.{TasksData, AreTasks, count, block_size}
use Rattle.task_chains.specs.SwitchRoutine.{routine_size, HasRoutine, IsInRoutine}
use Rattle.task_chains.specs.Views.{view_image_of, view_plan_of, TasksFitPlan}
use Rattle.task_chains.specs.TaskStarts.{block_word}
use Rattle.task_chains.specs.SafeTasks.{IsSoundTaskCert}
use Rattle.task_chains.proofs.Alike.{seen_as, Alike}
use Rattle.task_chains.proofs.Fitting.{fitting}
use Rattle.task_chains.proofs.Invariant.{ViewOf, Waits, Turn, AllKept}
use Rattle.task_chains.proofs.Outside.{Both}
use Rattle.task_chains.proofs.Switch.{Paused, Shared, Twins-from, Shared-from}
use Rattle.task_chains.proofs.Twins.{Twins, SameContexts-length}
use Rattle.task_chains.proofs.ViewEvents.{IsKept}
use Rattle.task_chains.proofs.ViewPlan.{view_is_plan}
use Rattle.task_chains.proofs.ViewRun.{HasCore, ViewRun, view_words, view_globals, view_runs, view_seen_few, view_room, view_all_room}
use Rattle.task_chains.proofs.WaitsKept.{waits_kept}

-- The premises: the plan and the tasks, the routine, certificates judged well, and numbers that are
-- at least their needs and have a sum within the areas.
pub record World (image : ImageData) (plan : PlanData) (tasks : TasksData) (certs : ℕ → CertData) (needs : ℕ → ℕ) : Type 0 where
  pub ok : IsPlan plan
  pub are : AreTasks tasks
  pub fit : TasksFitPlan plan tasks
  pub has : HasRoutine image plan tasks
  pub judged : (w : ℕ) → w < count tasks → IsSoundTaskCert image plan tasks (certs w) w
  pub enough : (w : ℕ) → w < count tasks → certified_need (view_image_of image tasks w) (view_plan_of plan tasks w) (certs w) ≤ needs w
  pub two : (w : ℕ) → 1 ≤ w → w < count tasks → 2 ≤ needs w
  pub sum : sum_of_first (count tasks) needs ≤ plan.areas - plan.reserve

pub in_or_out : (tasks : TasksData) (x : ℕ) → IsInRoutine tasks x ⊎ (IsInRoutine tasks x → ⊥)
in_or_out tasks x =
    elim (cases_lt x tasks.switch) [
      | inl low ↦ inr (λ i. let a = i.0 in omega arith)
      | inr from ↦ elim (cases_lt x (tasks.switch + routine_size)) [ inl within ↦ inl (from, within) | inr high ↦ inr (λ i. let b = i.1 in omega arith) ]
    ]

-- ---- the block and rom
-- words of the block by its bytes
pub block_same : (tasks : TasksData) (m n : Memory) → ((x : ℕ) → tasks.block ≤ x → x < tasks.block + block_size tasks → finite.get n x ≡ finite.get m x) → (j : ℕ) → j ≤ count tasks → block_word tasks n j ≡ block_word tasks m j
block_same tasks m n same j le = word_at_agrees m n (tasks.block + 4 * j) (λ i lt. same (tasks.block + 4 * j + i) (omega arith) (omega arith))

module _ {plan : PlanData} (ok : IsPlan plan) {tasks : TasksData} (fit : TasksFitPlan plan tasks) where
  -- the block is in ram
  pub block_in_ram : (x : ℕ) → tasks.block ≤ x → x < tasks.block + block_size tasks → IsInOneRange x 1 plan.ram
  block_in_ram x low high = subst (λ y. IsInOneRange y 1 plan.ram) (let e : tasks.block + (x - tasks.block) ≡ x = omega arith in e) (in_one tasks.block (block_size tasks) (x - tasks.block) plan.ram (omega arith) fit.in_ram)

  pub ram_areas : (x : ℕ) → IsInOneRange x 1 plan.ram → IsInAreas plan x → ⊥
  ram_areas x ram at =
      all_apart-before x (plan.rom ++ plan.ram ++ map (λ d. d.range) plan.devices) (areas_range plan ∷ []) ok.apart
      (IsInOne-front x 1 (plan.rom ++ plan.ram) (map (λ d. d.range) plan.devices) (IsInOne-behind x 1 plan.rom plan.ram ram)) (inl (at.0, (let lt = at.1 in omega arith)))

  pub kept : (x : ℕ) → IsKept plan tasks x → IsInAreas plan x → ⊥
  kept x (inl in_rom) at = rom_apart ok x in_rom at
  kept x (inr b) at = ram_areas x (block_in_ram x b.0 b.1) at

module _ {image : ImageData} {plan : PlanData} {tasks : TasksData} {certs : ℕ → CertData} {needs : ℕ → ℕ} (wd : World image plan tasks certs needs) where
  -- each view's need is within the areas without the reserve
  pub view_few : (w : ℕ) → w < count tasks → certified_need (view_image_of image tasks w) (view_plan_of plan tasks w) (certs w) ≤ plan.areas - plan.reserve
  view_few w lt = omega (arith, wd.enough w lt, sum_below-at (count tasks) needs w lt, wd.sum)

  pub view_ok : (w : ℕ) → w < count tasks → IsPlan (view_plan_of plan tasks w)
  view_ok w lt = view_is_plan wd.ok tasks wd.are wd.fit w lt

  -- ---- all of them, where one that owns PCXI went on
  pub all_from : (m m2 : Machine) {u : ℕ} {word_of : ℕ → ℕ} {chain_of : ℕ → List ℕ} → AllKept image plan tasks needs m u word_of chain_of → (words2 : ℕ → ℕ) (chains2 : ℕ → List ℕ) → Shared plan (count tasks) u words2 chains2 m2.mem m2.pcxi m2.fcx m2.lcx
      → IsMachine m2 → m2.end ≡ Running → HasCore plan m2 → HasGlobals plan m2.a → ((x : ℕ) → is_mapped m2.mem x ≡ is_mapped m.mem x) → ((x : ℕ) → IsInOneRange x 1 plan.rom → finite.get m2.mem x ≡ finite.get m.mem x)
      → ((w : ℕ) → w < count tasks → w ≢ u → (words2 w ≡ word_of w) × (chains2 w ≡ chain_of w) × SameAreas m.mem m2.mem (chain_of w))
      → ((w : ℕ) → w < count tasks → w ≢ u → block_word tasks m2.mem w ≡ block_word tasks m.mem w) → length (chains2 u) ≤ needs u → Turn image plan tasks u words2 chains2 m2
      → AllKept image plan tasks needs m2 u words2 chains2
  all_from m m2 {u = u} {word_of = word_of} {chain_of = chain_of} k words2 chains2 shared is_machine running core globals2 mapped roms others blocks few turn =
      let core_same : m2.core ≡ m.core = core.core ∙ sym k.core in
      let lcx_same : m2.lcx ≡ m.lcx = core.lcx ∙ sym k.lcx in
      record {
        shared = shared;
        words = is_machine;
        running = running;
        memory = λ x. (λ h. (k.memory x).0 (sym (mapped x) ∙ h), λ by. mapped x ∙ (k.memory x).1 by);
        rom = λ x b in_rom held. roms x in_rom ∙ k.rom x b in_rom held;
        globals = globals2;
        biv = core.biv;
        btv = core.btv;
        isp = core.isp;
        core = core.core;
        lcx = core.lcx;
        turn = turn;
        waits = λ w lt apart.
            let o = others w lt apart in
            let was = k.waits w lt apart in
            let still : Waits image plan tasks w m2 (word_of w) (chain_of w) = waits_kept image plan tasks w m m2 (word_of w) (chain_of w) o.2 roms (blocks w lt apart) core_same lcx_same was.1 in (
              blocks w lt apart ∙ was.0 ∙ sym o.0,
              subst (λ x. Waits image plan tasks w m2 x (chains2 w)) (sym o.0) (subst (λ ls. Waits image plan tasks w m2 (word_of w) ls) (sym o.1) still),
            );
        needs_kept = λ w lt.
            elim (cases_eq w u) [
              | inl same ↦ subst (λ x. length (chains2 x) ≤ needs x) (sym same) few
              | inr apart ↦ subst (λ ls. length ls ≤ needs w) (sym (others w lt apart).1) (k.needs_kept w lt)
            ];
      }

  -- ---- the running task and its view
  module _ (m : Machine) {u : ℕ} {word_of : ℕ → ℕ} {chain_of : ℕ → List ℕ} (k : AllKept image plan tasks needs m u word_of chain_of) (mem : Memory) (pcxi fcx : ℕ) (seen : List ℕ)
      (of : ViewOf image plan tasks u m.mem (seen_as m mem pcxi fcx)) (paused : Paused plan m.mem m.pcxi (chain_of u) seen m.lcx mem pcxi fcx) (e : Event) where
    abbrev v : Machine
    v = seen_as m mem pcxi fcx

    own : u < count tasks
    own = (k.shared).own

    pub twins : Twins plan (count tasks) u word_of chain_of seen m.mem m.pcxi m.fcx m.lcx mem pcxi fcx
    twins = Twins-from k.shared paused

    pub both : Both image (view_image_of image tasks u) plan tasks (count tasks) u word_of chain_of seen m mem pcxi fcx
    both = record {
      words = k.words;
      view_words = view_words wd.ok wd.are wd.fit own (certs u) (wd.judged u own) (view_few u own) v of.run;
      running = k.running;
      memory = k.memory;
      view_memory = of.memory;
      rom = k.rom;
      view_rom = of.rom;
      same_rom = of.same_rom;
      twins = twins;
    }

    -- ---- an event of both
    module _ (e2 : Event) (fits2 : Fits (view_plan_of plan tasks u) (seen_as m mem pcxi fcx) e2) where
      pub runs_too : (step (seen_as m mem pcxi fcx) e2).end ≡ Running
      runs_too = view_runs wd.ok wd.are wd.fit own (certs u) (wd.judged u own) (view_few u own) v of.run k.running of.rom seen paused.view_free paused.view_links paused.view_areas e2 fits2

      pub own_room : (upper : Bool) → (save (seen_as m mem pcxi fcx) upper).end ≡ Running → length seen < plan.areas - plan.reserve
      own_room = view_room wd.ok wd.are wd.fit own (certs u) (wd.judged u own) (view_few u own) v of.run k.running of.rom seen paused.view_free paused.view_links paused.view_areas e2 fits2

      pub room_for_all : (upper : Bool) → length seen < plan.areas - plan.reserve → (step (seen_as m mem pcxi fcx) e2).mem ≡ (with_context_saved (seen_as m mem pcxi fcx) upper).mem → (step (seen_as m mem pcxi fcx) e2).pcxi ≡ (with_context_saved (seen_as m mem pcxi fcx) upper).pcxi
          → sum_of_first (count tasks) (λ w. length (chain_of w)) < plan.areas - plan.reserve
      room_for_all upper room mem_is pcxi_is =
          view_all_room wd.ok wd.are wd.fit own (certs u) (wd.judged u own) (view_few u own) v of.run k.running of.rom seen paused.view_free paused.view_links paused.view_areas e2 fits2 (count tasks) u chain_of needs own k.needs_kept
          (SameContexts-length m.mem mem m.pcxi pcxi (chain_of u) seen paused.same) (wd.enough u own) wd.sum upper room mem_is pcxi_is

      -- ---- and what is so afterwards
      module _ (Kept : ℕ → Type 0) (rom_kept : (x : ℕ) → IsInOneRange x 1 plan.rom → Kept x) (a : Alike plan (count tasks) u word_of chain_of Kept mem m (step m e) (step (seen_as m mem pcxi fcx) e2)) (run2 : ViewRun image plan tasks u (step (seen_as m mem pcxi fcx) e2)) where
        abbrev m2 : Machine
        m2 = step m e

        pub view_after : ViewOf image plan tasks u (step m e).mem (seen_as (step m e) a.view a.view_pcxi a.view_fcx)
        view_after = record {
          run = subst (ViewRun image plan tasks u) a.is run2;
          memory = λ x. (λ h. (of.memory x).0 (sym (a.mapped x).1 ∙ h), λ by. (a.mapped x).1 ∙ (of.memory x).1 by);
          rom = λ x b in_rom held. a.view_outside x (rom_kept x in_rom) ∙ of.rom x b in_rom held;
          same_rom = λ x in_rom out. a.view_outside x (rom_kept x in_rom) ∙ of.same_rom x in_rom out ∙ sym (a.outside x (rom_kept x in_rom));
        }

        pub paused_after : Paused plan (step m e).mem (step m e).pcxi (a.chains u) a.seen (step m e).lcx a.view a.view_pcxi a.view_fcx
        paused_after =
            let t = a.twins in
            record { same = t.same; view_word = t.view_word; view_links = t.view_links; view_free = t.view_free; view_areas = t.view_areas }

        running2 : (step m e).end ≡ Running
        running2 = sym (ap (λ (x : Machine). x.end) a.is) ∙ runs_too

        few_after : length a.seen ≤ certified_need (view_image_of image tasks u) (view_plan_of plan tasks u) (certs u)
        few_after =
            let p = paused_after in
            let f = fitting (view_ok u own) (seen_as m2 a.view a.view_pcxi a.view_fcx) in
            view_seen_few wd.ok wd.are wd.fit own (certs u) (wd.judged u own) (view_few u own) (seen_as m2 a.view a.view_pcxi a.view_fcx) view_after.run running2 view_after.rom a.seen p.view_free p.view_links p.view_areas f.0 f.1

        pub all_after : Fits plan m e → ((w : ℕ) → w < count tasks → w ≢ u → block_word tasks (step m e).mem w ≡ block_word tasks m.mem w) → Turn image plan tasks u a.words a.chains (step m e)
            → AllKept image plan tasks needs (step m e) u a.words a.chains
        all_after fits blocks turn =
            let long : length (a.chains u) ≡ length a.seen = SameContexts-length m2.mem a.view m2.pcxi a.view_pcxi (a.chains u) a.seen paused_after.same in
            let most = few_after in
            let enough = wd.enough u own in
            let c = (view_after.run).core in
            all_from m m2 k a.words a.chains (Shared-from a.twins) (stays_step m e k.words (irq_lt wd.ok m e fits) fits.input fits.status) running2 (record { lcx = c.lcx; biv = c.biv; btv = c.btv; isp = c.isp; core = c.core })
            (view_globals wd.ok wd.are wd.fit own (certs u) (wd.judged u own) (view_few u own) (seen_as m2 a.view a.view_pcxi a.view_fcx) view_after.run)
            (λ x. (a.mapped x).0) (λ x in_rom. a.outside x (rom_kept x in_rom)) a.others blocks (omega arith) turn
