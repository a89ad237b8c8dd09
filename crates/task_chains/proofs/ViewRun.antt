-- The run of a view: its frames, what its point says, and one event more.
use Rattle.std.proofs.Common.{◌≡◌, ℕ, ◌+◌, ◌-◌, ◌*◌, ◌%◌, ◌^◌, ◌<◌, ◌≤◌, inl, inr, Bool, true, false, not, ◌&&◌, ◌==◌, cond, List, [], ◌∷◌, length, get_or, Some, None, Ok, refl, sym, ap, ◌∙◌, subst, arith}
use Rattle.std.specs.Prelude.{IfSome}
use Rattle.csa_chain.specs.Chain.{link_in}
use Rattle.csa_chain.proofs.ChainLaws.{Links, Links-unique}
use Rattle.csa_chain.specs.SeveralChains.{sum_of_first}
use Rattle.elf_image.specs.Images.{ImageData}
use Rattle.tcd_plan.specs.PlanData.{PlanData, IsPlan}
use Rattle.tcd_plan.specs.MappedAddresses.{IsStoreInRange}
use Rattle.tc_isa.specs.InBounds.{IsShapeInBounds}
use Rattle.tc_isa.specs.declared.shapes.Shape.{Shape}
use Rattle.tc_isa.specs.declared.shapes.Shape.TheVariants.{Compute, Scaled, Load, Store, Branch, Jump, Call, Ret, Rfe, Svlcx, Rslcx, Bisr, Enable, Disable, Syscall, Mfcr, Mtcr, Nothing}
use Rattle.tc_machine.specs.declared.events.Event.{Event}
use Rattle.tc_machine.specs.declared.events.End.TheVariants.{Running}
use Rattle.tc_machine.specs.declared.state.Machine.{Machine}
use Rattle.tc_machine.specs.Machine.{reg, IsMachine}
use Rattle.tc_machine.specs.SavesAndRestores.{with_context_saved, save}
use Rattle.tc_machine.specs.Fetching.{fetched_instruction}
use Rattle.tc_machine.specs.Instructions.{access_address}
use Rattle.tc_machine.specs.Stepping.{is_interrupt_taken, store_of_fetched, step}
use Rattle.tc_machine.specs.PlanAreas.{first_link}
use Rattle.tc_machine.specs.Safe.{Fits, IsSafeAt}
use Rattle.tc_machine.specs.Starting.{HasGlobals, Starts}
use Rattle.tc_mem.specs.PlanMemory.{HoldsRom, IsPlanMemory}
use Rattle.tc_machine.proofs.Areas.{Areas}
use Rattle.tc_machine.proofs.Kept.{none_when_low}
use Rattle.tc_machine.proofs.Stays.{stays_step, irq_lt}
use Rattle.tc_machine.proofs.Steps.{stored-is}
use Rattle.vd_transfer.specs.Registers.{register_slot, WritesNoFixedRegister}
use Rattle.depth_cert.specs.declared.keys.Key.{Key}
use Rattle.depth_cert.specs.Certs.{CertData}
use Rattle.cfg_recover.specs.RulesHoldOrFail.{limits_of_cert, certified_need}
use Rattle.cfg_recover.specs.Entries.{start_key}
use Rattle.cfg_recover.specs.Frames.{RunFrame, frames_after_return, frames_after_step}
use Rattle.cfg_recover.specs.LocalRules.{LocalRuleHolds}
use Rattle.cfg_recover.proofs.CodeLaws.{IsCode-bounded}
use Rattle.task_chains.specs.Tasks.{TasksData, AreTasks, count}
use Rattle.task_chains.specs.Views.{view_image_of, view_plan_of, TasksFitPlan}
use Rattle.task_chains.specs.Rule17.{KeepsRule17ByShape}
use Rattle.task_chains.specs.SwitchRoutine.{switch_key, IsInRoutine}
use Rattle.task_chains.specs.SafeTasks.{IsSoundTaskCert}
use Rattle.depth_cert.proofs.KeyLaws.{one_number}
use Rattle.task_chains.proofs.FramesKept.{AreKeys, AreFirst, keys_next}
use Rattle.task_chains.proofs.Fitting.{quiet}
use Rattle.task_chains.proofs.LevelSteps.{Leveled}
use Rattle.task_chains.proofs.Leveling.{EndsBy, StoresNothing, level_interrupt, level_step}
use Rattle.task_chains.proofs.CoreKept.{SameCore, core_taken, core_step}
use Rattle.task_chains.proofs.Outside.{AtPoint, fetched_code}
use Rattle.task_chains.proofs.Reached.{Reached, Reached-start, Reached-step, StoresAt, PointOf, point_of, frame_at, some_frame, safe_at, words_of}
use Rattle.task_chains.proofs.ViewEvents.{size_some, view_store_gone}
use Rattle.task_chains.proofs.ViewPlan.{view_is_plan}
use Rattle.task_chains.proofs.ViewRooms.{seen_few, runs_on, own_room, all_room}

-- what no instruction except MTCR changes is the plan's
pub record HasCore (plan : PlanData) (v : Machine) : Type 0 where
  pub lcx : v.lcx ≡ first_link plan + (plan.areas - plan.reserve)
  pub biv : v.biv ≡ plan.biv
  pub btv : v.btv ≡ plan.btv
  pub isp : v.isp ≡ plan.isp
  pub core : v.core ≡ plan.core

-- A state that a run of task u's view has reached, with its frames. Frames of the routine, except
-- the newest frame, are at the routine's first instruction.
pub record ViewRun (image : ImageData) (plan : PlanData) (tasks : TasksData) (u : ℕ) (v : Machine) : Type 0 where
  pub frame : RunFrame
  pub behind : List RunFrame
  pub reached : Reached (view_image_of image tasks u) (view_plan_of plan tasks u) v (frame ∷ behind)
  pub leveled : Leveled plan.start_ccpn v (frame ∷ behind)
  pub keys : AreKeys (frame ∷ behind)
  pub first : AreFirst tasks behind
  pub core : HasCore plan v

-- a run in these frames
pub record NextRun (image : ImageData) (plan : PlanData) (tasks : TasksData) (u : ℕ) (v : Machine) (fs : List RunFrame) : Type 0 where
  pub run : ViewRun image plan tasks u v
  pub frames_are : run.frame ∷ run.behind ≡ fs

pub core_from : (plan : PlanData) (v x : Machine) → HasCore plan v → SameCore v x → HasCore plan x
core_from plan v x h s = record { lcx = s.lcx ∙ h.lcx; biv = s.biv ∙ h.biv; btv = s.btv ∙ h.btv; isp = s.isp ∙ h.isp; core = s.core ∙ h.core }

-- a start
pub ViewRun-start : (image : ImageData) (plan : PlanData) (tasks : TasksData) (u : ℕ) (v : Machine) → Starts (view_image_of image tasks u) (view_plan_of plan tasks u) v → ViewRun image plan tasks u v
ViewRun-start image plan tasks u v s = record {
  frame = record { key = start_key (view_image_of image tasks u) (view_plan_of plan tasks u); at = v.pc };
  behind = [];
  reached = Reached-start (view_image_of image tasks u) (view_plan_of plan tasks u) v s;
  leveled = record { seen = []; links = ap link_in s.pcxi; at = λ base. s.ccpn; levels = tt };
  keys = (record { kind = omega arith; entry = subst (λ x. x < 2 ^ 32) s.pc (s.machine).pc; prio = omega arith }, tt);
  first = tt;
  core = record { lcx = s.lcx; biv = s.biv; btv = s.btv; isp = s.isp; core = s.core };
}

-- the start is in no frame of the routine
pub ViewRun-start-first : (image : ImageData) (plan : PlanData) (tasks : TasksData) (u : ℕ) (v : Machine) (s : Starts (view_image_of image tasks u) (view_plan_of plan tasks u) v)
    → AreFirst tasks ((ViewRun-start image plan tasks u v s).frame ∷ (ViewRun-start image plan tasks u v s).behind)
unfolding ViewRun-start
ViewRun-start-first image plan tasks u v s = (λ is. absurd (let k : 0 ≡ 1 = ap (λ (k : Key). k.kind) is in omega arith), tt)

four_of : (g : List ℕ) → length g ≡ 4 → get_or g 0 0 ∷ get_or g 1 0 ∷ get_or g 2 0 ∷ get_or g 3 0 ∷ [] ≡ g
four_of (a ∷ b ∷ c ∷ d ∷ []) e = refl
four_of [] e = absurd (omega arith)
four_of (a ∷ []) e = absurd (omega arith)
four_of (a ∷ b ∷ []) e = absurd (omega arith)
four_of (a ∷ b ∷ c ∷ []) e = absurd (omega arith)
four_of (a ∷ b ∷ c ∷ d ∷ x ∷ g) e = absurd (omega arith)

module _ {image : ImageData} {plan : PlanData} (ok : IsPlan plan) {tasks : TasksData} (are : AreTasks tasks) (fit : TasksFitPlan plan tasks) {u : ℕ} (lt : u < count tasks) (cert : CertData) (judged : IsSoundTaskCert image plan tasks cert u)
    (few : certified_need (view_image_of image tasks u) (view_plan_of plan tasks u) cert ≤ plan.areas - plan.reserve) (v : Machine) (r : ViewRun image plan tasks u v) where
  abbrev view : ImageData
  view = view_image_of image tasks u

  abbrev plan2 : PlanData
  plan2 = view_plan_of plan tasks u

  abbrev most : ℕ
  most = certified_need (view_image_of image tasks u) (view_plan_of plan tasks u) cert

  view_ok : IsPlan (view_plan_of plan tasks u)
  view_ok = view_is_plan ok tasks are fit u lt

  pub view_point : PointOf (view_plan_of plan tasks u) (view_image_of image tasks u) cert tasks v (r.frame).key
  view_point = point_of view plan2 view_ok cert judged.is_cert judged.accepted tasks judged.apart v r.frame r.behind judged.frames r.reached

  same_key : (view_point.node).key ≡ (r.frame).key
  same_key = one_number (view_point.node).key (r.frame).key view_point.is_key (r.keys).0 view_point.same_key

  apart_at : KeepsRule17ByShape (limits_of_cert plan2 cert) plan2 tasks (r.frame).key v.pc view_point.state view_point.shape
  apart_at = subst (λ (k : Key). KeepsRule17ByShape (limits_of_cert plan2 cert) plan2 tasks k v.pc view_point.state view_point.shape) same_key view_point.apart

  own_at : (q : ℕ) → LocalRuleHolds (limits_of_cert plan2 cert) plan2 (r.frame).key v.pc view_point.state view_point.shape q
  own_at q = subst (λ (k : Key). LocalRuleHolds (limits_of_cert plan2 cert) plan2 k v.pc view_point.state view_point.shape q) same_key (view_point.own q)

  pub view_words : IsMachine v
  view_words = words_of view plan2 view_ok cert judged.is_cert judged.accepted tasks judged.apart v (r.frame ∷ r.behind) r.reached

  pub view_in_routine : IsInRoutine tasks v.pc → (r.frame).key ≡ switch_key tasks
  view_in_routine i = apart_at.inside i.0 i.1

  pub view_out_of_routine : (IsInRoutine tasks v.pc → ⊥) → (r.frame).key ≡ switch_key tasks → ⊥
  view_out_of_routine out is =
      let a = apart_at.at is in
      let less : a.0 < 18 = a.1 in
      let e : v.pc ≡ tasks.switch + 4 * a.0 = a.2 in
      out (omega arith, omega arith)

  -- in the routine CCPN is the start's
  pub view_ccpn : IsInRoutine tasks v.pc → v.ccpn ≡ plan.start_ccpn
  view_ccpn i = let k = view_in_routine i in (r.leveled).at (ap (λ (k : Key). k.prio) k, ap (λ (k : Key). k.is) k)

  -- if it enters the routine, it is at the first instruction
  pub view_enters : AreFirst tasks (r.frame ∷ r.behind) → IsInRoutine tasks v.pc → v.pc ≡ tasks.switch
  view_enters all i = sym (frame_at view plan2 view_ok cert judged.is_cert judged.accepted tasks judged.apart v r.frame r.behind judged.frames r.reached) ∙ all.0 (view_in_routine i)

  pub view_running : v.end ≡ Running
  view_running =
      let q = quiet view_ok v in
      (safe_at view plan2 view_ok cert judged.is_cert judged.accepted tasks judged.apart most v (r.frame ∷ r.behind) q.event judged.safe r.reached q.fits).running

  pub view_globals : HasGlobals plan v.a
  unfolding register_slot
  view_globals =
      let h = view_point.inside in
      let a0 : reg v 16 ≡ get_or plan.globals 0 0 = elim (h.regs 16 (omega arith)) [ inl e ↦ e | inr n ↦ absurd n ] in
      let a1 : reg v 17 ≡ get_or plan.globals 1 0 = elim (h.regs 17 (omega arith)) [ inl e ↦ e | inr n ↦ absurd n ] in
      let a8 : reg v 24 ≡ get_or plan.globals 2 0 = elim (h.regs 24 (omega arith)) [ inl e ↦ e | inr n ↦ absurd n ] in
      let a9 : reg v 25 ≡ get_or plan.globals 3 0 = elim (h.regs 25 (omega arith)) [ inl e ↦ e | inr n ↦ absurd n ] in
      (λ i. a0 i ∷ a1 i ∷ a8 i ∷ a9 i ∷ []) ∙ four_of plan.globals (ok.words).four

  -- ---- where it loads and stores
  module _ (running : v.end ≡ Running) (rom : HoldsRom (view_image_of image tasks u) (view_plan_of plan tasks u) v.mem) where
    pub view_fetched : fetched_instruction v ≡ Ok (view_point.shape, view_point.size)
    view_fetched = fetched_code view plan2 v view_point.shape view_point.size view_ok rom view_point.code

    pub stores_at : (e : Event) → StoresAt (view_plan_of plan tasks u) v e view_point.shape
    stores_at e =
        let q = quiet view_ok v in
        let none : is_interrupt_taken v q.event ≡ false = none_when_low v q.event (let z = q.irq in omega arith) in
        let safe : IsSafeAt view plan2 most v q.event = safe_at view plan2 view_ok cert judged.is_cert judged.accepted tasks judged.apart most v (r.frame ∷ r.behind) q.event judged.safe r.reached q.fits in
        by_shape q.event q.aln view_point.shape view_point.size (subst (λ o. IfSome o (IsStoreInRange plan2)) (stored-is v q.event (Ok (view_point.shape, view_point.size)) running none view_fetched) safe.stores_in_range)
      where
        by_shape : (d : Event) → d.aln ≡ false → (shape : Shape) (size : ℕ) → IfSome (store_of_fetched v d (Ok (shape, size))) (IsStoreInRange (view_plan_of plan tasks u)) → StoresAt (view_plan_of plan tasks u) v e shape
        by_shape d off (Store src base offset width after) size h =
            λ none. subst (λ a. IfSome (cond (a && not (access_address v base offset after % width == 0)) None (Some (access_address v base offset after, width))) (IsStoreInRange (view_plan_of plan tasks u))) off h
        by_shape d off (Compute op dst x y) size h = tt
        by_shape d off (Scaled dst base index j) size h = tt
        by_shape d off (Load dst base offset width signed after) size h = tt
        by_shape d off (Branch test x y by lowers) size h = tt
        by_shape d off (Jump target) size h = tt
        by_shape d off (Call target) size h = tt
        by_shape d off Ret size h = tt
        by_shape d off Rfe size h = tt
        by_shape d off Svlcx size h = tt
        by_shape d off Rslcx size h = tt
        by_shape d off (Bisr c) size h = tt
        by_shape d off Enable size h = tt
        by_shape d off Disable size h = tt
        by_shape d off (Syscall tin) size h = tt
        by_shape d off (Mfcr dst number) size h = tt
        by_shape d off (Mtcr src number) size h = tt
        by_shape d off Nothing size h = tt

    pub view_at_point : (e : Event) → AtPoint (limits_of_cert (view_plan_of plan tasks u) cert) (view_image_of image tasks u) plan tasks u v e view_point.state view_point.shape view_point.size
    view_at_point e = record {
      code = view_point.code;
      writes = (view_point.own 13).writes refl;
      loads = (view_point.apart).loads;
      links = (view_point.apart).links;
      load_at = view_point.load_at;
      store_at = stores_at e;
    }

    stores_nothing : IsPlanMemory (view_plan_of plan tasks u) v.mem → (e : Event) → StoresNothing v e view_point.shape
    stores_nothing memory e = by_shape view_point.shape (IsCode-bounded view plan2 v.pc view_point.shape view_point.size view_point.code) (stores_at e)
      where
        by_shape : (shape : Shape) → IsShapeInBounds shape → StoresAt (view_plan_of plan tasks u) v e shape → StoresNothing v e shape
        by_shape (Store src base offset width after) is h = λ none. view_store_gone ok tasks are fit u v.mem memory (access_address v base offset after) width (reg v src) (size_some width is.3) (h none)
        by_shape (Compute op dst x y) is h = tt
        by_shape (Scaled dst base index j) is h = tt
        by_shape (Load dst base offset width signed after) is h = tt
        by_shape (Branch test x y by lowers) is h = tt
        by_shape (Jump target) is h = tt
        by_shape (Call target) is h = tt
        by_shape Ret is h = tt
        by_shape Rfe is h = tt
        by_shape Svlcx is h = tt
        by_shape Rslcx is h = tt
        by_shape (Bisr c) is h = tt
        by_shape Enable is h = tt
        by_shape Disable is h = tt
        by_shape (Syscall tin) is h = tt
        by_shape (Mfcr dst number) is h = tt
        by_shape (Mtcr src number) is h = tt
        by_shape Nothing is h = tt

    -- ---- one event more
    module _ (seen free : List ℕ) (links : Links v.mem v.pcxi seen) (areas : Areas plan v.mem v.fcx v.lcx seen free) (e : Event) (fits : Fits (view_plan_of plan tasks u) v e) where
      view_areas : Areas (view_plan_of plan tasks u) v.mem v.fcx v.lcx seen free
      view_areas = record { links = areas.links; whole = areas.whole; fcx_word = areas.fcx_word; lcx_is = areas.lcx_is }

      pub view_runs : (step v e).end ≡ Running
      view_runs = runs_on view plan2 view_ok cert judged.is_cert judged.accepted tasks judged.apart most judged.safe few v (r.frame ∷ r.behind) r.reached view_words seen links free view_areas e fits

      pub view_seen_few : length seen ≤ certified_need (view_image_of image tasks u) (view_plan_of plan tasks u) cert
      view_seen_few = seen_few view plan2 view_ok cert judged.is_cert judged.accepted tasks judged.apart most judged.safe few v (r.frame ∷ r.behind) r.reached view_words seen links free view_areas e fits

      pub view_room : (upper : Bool) → (save v upper).end ≡ Running → length seen < plan.areas - plan.reserve
      view_room = own_room view plan2 view_ok cert judged.is_cert judged.accepted tasks judged.apart most judged.safe few v (r.frame ∷ r.behind) r.reached view_words seen links free view_areas e fits

      pub view_all_room : (n w : ℕ) (chain_of : ℕ → List ℕ) (needs : ℕ → ℕ) → w < n → ((j : ℕ) → j < n → length (chain_of j) ≤ needs j) → length (chain_of w) ≡ length seen
          → certified_need (view_image_of image tasks u) (view_plan_of plan tasks u) cert ≤ needs w → sum_of_first n needs ≤ plan.areas - plan.reserve
          → (upper : Bool) → length seen < plan.areas - plan.reserve → (step v e).mem ≡ (with_context_saved v upper).mem → (step v e).pcxi ≡ (with_context_saved v upper).pcxi → sum_of_first n (λ j. length (chain_of j)) < plan.areas - plan.reserve
      view_all_room n w chain_of needs = all_room view plan2 view_ok cert judged.is_cert judged.accepted tasks judged.apart most judged.safe few v (r.frame ∷ r.behind) r.reached view_words seen links free view_areas e fits n w chain_of needs

      same_seen : seen ≡ (r.leveled).seen
      same_seen = Links-unique v.mem v.pcxi v.pcxi seen (r.leveled).seen refl links (r.leveled).links

      own_areas : Areas plan v.mem v.fcx v.lcx (r.leveled).seen free
      own_areas = subst (λ ss. Areas plan v.mem v.fcx v.lcx ss free) same_seen areas

      own_rooms : (upper : Bool) → (save v upper).end ≡ Running → length (r.leveled).seen < plan.areas - plan.reserve
      own_rooms upper stands = subst (λ ss. length ss < plan.areas - plan.reserve) same_seen (view_room upper stands)

      next_reached : Reached (view_image_of image tasks u) (view_plan_of plan tasks u) (step v e) (frames_after_step v e (r.frame ∷ r.behind))
      next_reached = Reached-step view plan2 v (r.frame ∷ r.behind) e r.reached fits

      next_keys : AreKeys (frames_after_step v e (r.frame ∷ r.behind))
      next_keys =
          let k = irq_lt view_ok v e fits in
          keys_next v e r.frame r.behind r.keys k (stays_step v e view_words k fits.input fits.status).pc

      from_frames : (gs : List RunFrame) → frames_after_step v e (r.frame ∷ r.behind) ≡ gs → Leveled plan.start_ccpn (step v e) gs → AreFirst tasks (frames_after_return gs) → SameCore v (step v e) → NextRun image plan tasks u (step v e) gs
      from_frames [] is level first core =
          let s = some_frame view plan2 view_ok cert judged.is_cert judged.accepted tasks judged.apart (step v e) [] judged.frames (subst (Reached view plan2 (step v e)) is next_reached) in
          absurd (let no_frame : [] ≡ s.0 ∷ s.1 = s.2 in cc)
      from_frames (g ∷ gs) is level first core = record {
        run = record {
          frame = g;
          behind = gs;
          reached = subst (Reached view plan2 (step v e)) is next_reached;
          leveled = level;
          keys = subst AreKeys is next_keys;
          first = first;
          core = core_from plan v (step v e) r.core core;
        };
        frames_are = refl;
      }

      -- by an interrupt
      pub view_run_interrupt : is_interrupt_taken v e ≡ true → AreFirst tasks (frames_after_return (frames_after_step v e (r.frame ∷ r.behind))) → NextRun image plan tasks u (step v e) (frames_after_step v e (r.frame ∷ r.behind))
      view_run_interrupt taken first =
          from_frames (frames_after_step v e (r.frame ∷ r.behind)) refl (level_interrupt ok plan.start_ccpn v view_words running r.frame r.behind r.leveled free own_areas e own_rooms view_runs taken) first (core_taken v e taken)

      ends_by : (shape : Shape) → LocalRuleHolds (limits_of_cert plan2 cert) plan2 (r.frame).key v.pc view_point.state shape 6 → LocalRuleHolds (limits_of_cert plan2 cert) plan2 (r.frame).key v.pc view_point.state shape 7 → EndsBy (r.frame).key shape
      ends_by Ret o6 o7 = (o6.returns refl).0
      ends_by Rfe o6 o7 = λ is. elim (o7.exceptions refl).1 [ inl k ↦ elim k.0 [ inl two ↦ absurd (omega arith) | inr four ↦ absurd (omega arith) ] | inr three ↦ absurd (omega arith) ]
      ends_by _ o6 o7 = tt

      -- by its instruction
      pub view_run_step : IsPlanMemory (view_plan_of plan tasks u) v.mem → is_interrupt_taken v e ≡ false → AreFirst tasks (frames_after_return (frames_after_step v e (r.frame ∷ r.behind))) → NextRun image plan tasks u (step v e) (frames_after_step v e (r.frame ∷ r.behind))
      view_run_step memory none first =
          let writes : WritesNoFixedRegister view_point.shape = (view_point.own 13).writes refl in
          let nothing = stores_nothing memory e in
          from_frames (frames_after_step v e (r.frame ∷ r.behind)) refl
          (level_step ok plan.start_ccpn v view_words running r.frame r.behind r.leveled free own_areas e own_rooms view_runs view_point.shape view_point.size none view_fetched writes (ends_by view_point.shape (own_at 6) (own_at 7)) (λ base. apart_at.level base.0 base.1) nothing)
          first (core_step v e view_point.shape view_point.size none view_fetched writes nothing)
