-- Each step outside of the switch routine: the machine's and its view's are alike.
use Rattle.std.proofs.Common.{◌≡◌, ◌≢◌, ℕ, suc, ◌+◌, ◌-◌, ◌*◌, ◌/◌, ◌%◌, ◌^◌, ◌<◌, inl, inr, Bool, true, false, cond, List, [], ◌∷◌, length, Option, Some, None, Ok, refl, sym, ap, ◌∙◌, subst, arith, bit_or, set}
use Rattle.std.proofs.lemmas.Bool.{cases_Bool, false≢true, ne_eqb}
use Rattle.std.specs.Prelude.{is_some}
use Rattle.std.specs.FinMap as finite
use Rattle.csa_chain.specs.MemoryBytes.{Memory, is_mapped, loaded_number, with_bytes}
use Rattle.csa_chain.specs.Chain.{link_in}
use Rattle.csa_chain.proofs.ChainLaws.{Links}
use Rattle.csa_chain.specs.ContextWords.{pie_of, pcpn_of}
use Rattle.elf_image.specs.Images.{ImageData, image_byte}
use Rattle.tcd_plan.specs.PlanData.{PlanData, IsPlan}
use Rattle.tc_isa.specs.declared.shapes.Arg.{Arg}
use Rattle.tc_isa.specs.declared.shapes.Arg.TheVariants.{Reg, Word}
use Rattle.tc_isa.specs.InBounds.{IsArgInBounds}
use Rattle.cfg_recover.proofs.EntryLaws.{reg_lt}
use Rattle.cfg_recover.proofs.CodeLaws.{IsCode-bounded}
use Rattle.tc_isa.specs.declared.shapes.Shape.{Shape}
use Rattle.tc_isa.specs.declared.shapes.Shape.TheVariants.{Compute, Scaled, Load, Store, Branch, Jump, Call, Ret, Rfe, Svlcx, Rslcx, Bisr, Enable, Disable, Syscall, Mfcr, Mtcr, Nothing}
use Rattle.tc_machine.specs.declared.events.Event.{Event}
use Rattle.tc_machine.specs.declared.events.End.{End}
use Rattle.tc_machine.specs.declared.events.End.TheVariants.{Running, Dead}
use Rattle.tc_machine.specs.declared.state.Machine.{Machine}
use Rattle.tc_machine.specs.Machine.{reg, a11, if_running, if_end_running, IsMachine, core_register}
use Rattle.tc_machine.specs.Instructions.{wrapping_sum, with_pc_advanced, access_address, is_trapping_access, target_address, after_instruction, is_trapping_instruction}
use Rattle.tc_machine.specs.Handlers.{at_handler_entry, after_interrupt}
use Rattle.tc_machine.specs.Stepping.{is_interrupt_taken, after_fetch_result, machine_after_event, step}
use Rattle.tc_machine.specs.SavesAndRestores.{is_last_context_of_kind, restore, with_context_saved, save}
use Rattle.tc_machine.specs.Fetching.{fetched_instruction}
use Rattle.tcd_plan.specs.MappedAddresses.{IsInAreas, IsStoreInRange}
use Rattle.tc_mem.specs.PlanMemory.{HoldsRom, IsPlanMemory}
use Rattle.tc_machine.proofs.Steps.{with_event, done-is, step-is, step_does, does-call, does-ret}
use Rattle.tc_machine.proofs.Saves.{save-is, then_-running}
use Rattle.tc_machine.proofs.Areas.{HasFree, has_free}
use Rattle.tc_machine.proofs.Fetched.{fetched-is}
use Rattle.value_domain.specs.declared.states.State.{State}
use Rattle.value_domain.specs.Limits.{Limits}
use Rattle.vd_transfer.specs.Registers.{WritesNoFixedRegister}
use Rattle.cfg_recover.specs.Code.{IsCode}
use Rattle.cfg_recover.proofs.Points.{does-rfe, does-svlcx, does-rslcx, does-bisr, does-syscall, does-trapped}
use Rattle.cfg_recover.proofs.Writes.{store_keeps_areas}
use Rattle.csa_chain.proofs.MemoryLaws.{is_mapped-with_bytes}
use Rattle.csa_chain.specs.SeveralChains.{sum_of_first}
use Rattle.task_chains.specs.Tasks.{TasksData}
use Rattle.task_chains.specs.SwitchRoutine.{routine_size}
use Rattle.task_chains.specs.Views.{view_plan_of}
use Rattle.task_chains.specs.Rule17.{IsAccessOutside, LoadMissesAreasAndRoutine, ReadsNoContextRegister}
use Rattle.task_chains.proofs.Twins.{Twins, SameContexts-length}
use Rattle.task_chains.proofs.Alike.{seen_as, Alike, Alike-interrupt, Alike-call}
use Rattle.task_chains.proofs.Backs.{restores_from, Alike-ret, Alike-rfe, Alike-rslcx}
use Rattle.task_chains.proofs.Forth.{Alike-svlcx, Alike-bisr, Alike-syscall, Alike-misaligned}
use Rattle.task_chains.proofs.Plain.{Plainly, address-same, plain-compute, plain-scaled, plain-mfcr, plain-enable, plain-disable, plain-nothing, plain-jump, plain-branch, plain-load, plain-store, Alike-plain}
use Rattle.task_chains.proofs.Accesses.{Agrees, load_again}
use Rattle.task_chains.proofs.ViewStart.{SameRom}
use Rattle.task_chains.proofs.Reached.{LoadsAt, StoresAt}

-- What holds of the machine and its view between steps.
pub record Both (image view : ImageData) (plan : PlanData) (tasks : TasksData) (n u : ℕ) (word_of : ℕ → ℕ) (chain_of : ℕ → List ℕ) (seen : List ℕ) (m : Machine) (mem : Memory) (pcxi fcx : ℕ) : Type 0 where
  pub words : IsMachine m
  pub view_words : IsMachine (seen_as m mem pcxi fcx)
  pub running : m.end ≡ Running
  pub memory : IsPlanMemory plan m.mem
  pub view_memory : IsPlanMemory (view_plan_of plan tasks u) mem
  pub rom : HoldsRom image plan m.mem
  pub view_rom : HoldsRom view (view_plan_of plan tasks u) mem
  pub same_rom : SameRom plan tasks m.mem mem
  pub twins : Twins plan n u word_of chain_of seen m.mem m.pcxi m.fcx m.lcx mem pcxi fcx

-- What the certificate says of the view's point: the instruction, which isn't MTCR; K17; and the
-- addresses of its loads and stores.
pub record AtPoint (b : Limits) (view : ImageData) (plan : PlanData) (tasks : TasksData) (u : ℕ) (v : Machine) (e : Event) (s : State) (shape : Shape) (size : ℕ) : Type 0 where
  pub code : IsCode view (view_plan_of plan tasks u) v.pc shape size
  pub writes : WritesNoFixedRegister shape
  pub loads : LoadMissesAreasAndRoutine b (view_plan_of plan tasks u) tasks s shape
  pub links : ReadsNoContextRegister shape
  pub load_at : LoadsAt b (view_plan_of plan tasks u) s v shape
  pub store_at : StoresAt (view_plan_of plan tasks u) v e shape

-- the input of the view: what the machine loads
abbrev pub input_for : Machine → Event → Shape → ℕ
input_for m e (Load dst base offset size signed after) = loaded_number m.mem e.input (access_address m base offset after) size
input_for m e _ = e.input

abbrev pub event_for : Machine → Event → Shape → Event
event_for m e shape = record e { input = input_for m e shape }

-- the bytes of the instruction are the image's own
abbrev pub HasCodeOf : ImageData → ImageData → ℕ → ℕ → Type 0
HasCodeOf image view p size = (i : ℕ) → i < size → image_byte view (p + i) ≡ image_byte image (p + i)

pub same_code : (image view : ImageData) (plan : PlanData) (p size : ℕ) (shape : Shape) → HasCodeOf image view p size → IsCode view plan p shape size → IsCode image plan p shape size
same_code image view plan p size shape same c = record {
  even = c.even;
  bytes = c.bytes;
  inst = c.inst;
  spells = record { spelled = c.spells.spelled; in_rom = c.spells.in_rom; held = λ i lt. sym (same i (let long = c.sized in omega arith)) ∙ c.spells.held i lt };
  shaped = c.shaped;
  sized = c.sized;
}

pub fetched_code : (image : ImageData) (plan : PlanData) (m : Machine) (shape : Shape) (size : ℕ) → IsPlan plan → HoldsRom image plan m.mem → IsCode image plan m.pc shape size → fetched_instruction m ≡ Ok (shape, size)
fetched_code image plan m shape size ok rom c =
    fetched-is image ok m rom c.even c.bytes c.inst c.spells ∙ ap (λ (t : Shape). Ok (t, length c.bytes)) c.shaped ∙ ap (λ (k : ℕ). Ok (shape, k)) c.sized

-- if the machine runs after a step, it runs after the instruction
pub dead≢running : (end : End) (m : Machine) (next : Machine → Machine) → m.end ≡ end → (if_running m next).end ≡ Running → m.end ≡ Running
dead≢running Running m next is e = is
dead≢running (Dead cause) m next is e = sym (ap (λ x. (if_end_running x m next).end) is) ∙ e

pub done_runs : (m : Machine) (e : Event) → m.end ≡ Running → (step m e).end ≡ Running → (machine_after_event m e).end ≡ Running
unfolding step
done_runs m e running after =
    let inner : (if_running (machine_after_event m e) (λ n. with_event n e)).end ≡ Running = sym (ap (λ x. (if_end_running x m (λ m. if_running (machine_after_event m e) (λ n. with_event n e))).end) running) ∙ after in
    dead≢running (machine_after_event m e).end (machine_after_event m e) (λ n. with_event n e) refl inner

pub back_runs : (m : Machine) (upper : Bool) (next : Machine → Machine) → (if_running (restore m upper) next).end ≡ Running → (restore m upper).end ≡ Running
back_runs m upper next e = dead≢running (restore m upper).end (restore m upper) next refl e

module _ {image view : ImageData} {plan : PlanData} (ok : IsPlan plan) {tasks : TasksData} {n u : ℕ} (view_ok : IsPlan (view_plan_of plan tasks u)) (Kept : ℕ → Type 0) (kept : (x : ℕ) → Kept x → IsInAreas plan x → ⊥)
    {word_of : ℕ → ℕ} {chain_of : ℕ → List ℕ} {seen : List ℕ} (m : Machine) (mem : Memory) (pcxi fcx : ℕ) (k : Both image view plan tasks n u word_of chain_of seen m mem pcxi fcx) (b : Limits) (s : State) (e : Event) where
  abbrev v : Machine
  v = seen_as m mem pcxi fcx

  -- ---- loads
  -- a byte that a load reaches: it is in no save area and not in the routine
  byte_agrees : (x i size : ℕ) → i < size → IsAccessOutside x size plan.csa_at (64 * plan.areas) → IsAccessOutside x size tasks.switch routine_size → Agrees mem m.mem ((x + i) % 2 ^ 32)
  byte_agrees x i size lt areas routine =
      let y = (x + i) % 2 ^ 32 in
      elim (cases_Bool (is_mapped mem y)) [
        | inr gone ↦ inl (unmapped (finite.get mem y) gone)
        | inl there ↦ elim ((k.view_memory y).0 there) [
          | inl rom ↦ inr (k.same_rom y rom (routine i lt))
          | inr (inl none) ↦ absurd none
          | inr (inr at) ↦ absurd (elim (areas i lt) [ inl low ↦ (let a = at.0 in omega arith) | inr high ↦ (let a = at.1 in omega arith) ])
        ]
      ]
    where
      unmapped : (o : Option ℕ) → is_some o ≡ false → o ≡ None
      unmapped None g = refl
      unmapped (Some c) g = absurd (false≢true (sym g))

  module _ (dst : ℕ) (base : Arg) (offset size : ℕ) (signed after : Bool) (len : ℕ) (at : AtPoint b view plan tasks u v e s (Load dst base offset size signed after) len) where
    load_misses : IsAccessOutside (access_address v base offset after) size plan.csa_at (64 * plan.areas) × IsAccessOutside (access_address v base offset after) size tasks.switch routine_size
    load_misses = ((at.loads).0 (access_address v base offset after) at.load_at, (at.loads).1 (access_address v base offset after) at.load_at)

    pub same_load : access_address m base offset after < 2 ^ 32 → loaded_number mem (loaded_number m.mem e.input (access_address m base offset after) size) (access_address m base offset after) size ≡ loaded_number m.mem e.input (access_address m base offset after) size
    same_load lt =
        let is = address-same m mem pcxi fcx e e base offset after in
        load_again mem m.mem (k.words).bytes size (access_address m base offset after) e.input
        (λ i less. subst (λ x. Agrees mem m.mem ((x + i) % 2 ^ 32)) is (byte_agrees (access_address v base offset after) i size less load_misses.0 load_misses.1)) lt

  -- ---- addresses are words
  access_lt : (base : Arg) (offset : ℕ) (after : Bool) → IsArgInBounds base → access_address m base offset after < 2 ^ 32
  access_lt base offset false is = omega arith
  access_lt (Reg r) offset true is = reg_lt m k.words r
  access_lt (Word w) offset true is = is

  -- ---- what the steps ask for
  -- a store is in range, is to no byte that the view has, and doesn't change what is to be kept
  abbrev pub StoreIs : Shape → Type 0
  StoreIs (Store src base offset size after) =
      is_trapping_access e (access_address m base offset after) size ≡ false
      → IsStoreInRange plan (access_address m base offset after, size)
      × (with_bytes mem (access_address m base offset after) (reg m src) size ≡ mem)
      × ((y : ℕ) → Kept y → finite.get (with_bytes m.mem (access_address m base offset after) (reg m src) size) y ≡ finite.get m.mem y)
  StoreIs _ = Unit {0}

  -- if the view saves a context, it has room for one more area; if that save is all that the step
  -- does, so have all tasks
  pub record Rooms (e2 : Event) : Type 0 where
    pub own_room : (upper : Bool) → (save v upper).end ≡ Running → length seen < plan.areas - plan.reserve
    pub all_room : (upper : Bool) → length seen < plan.areas - plan.reserve → (step v e2).mem ≡ (with_context_saved v upper).mem → (step v e2).pcxi ≡ (with_context_saved v upper).pcxi → sum_of_first n (λ w. length (chain_of w)) < plan.areas - plan.reserve

  view_stands : (upper : Bool) → length seen < plan.areas - plan.reserve → save v upper ≡ with_context_saved v upper
  view_stands upper room =
      let h : HasFree plan mem fcx m.lcx seen = has_free ok (plan.areas - plan.reserve) (omega arith) mem fcx m.lcx seen (k.twins).view_free (k.twins).view_areas room in
      save-is v upper h.some h.area h.not_last

  abbrev pub AlikeStep : Event → Type 0
  AlikeStep e2 = Alike plan n u word_of chain_of Kept mem m (step m e) (step v e2)

  save_runs : (upper : Bool) (next : Machine → Machine) → (if_running (save v upper) next).end ≡ Running → (save v upper).end ≡ Running
  save_runs upper next g = dead≢running (save v upper).end (save v upper) next refl g

  -- an interrupt
  pub interrupt_step : is_interrupt_taken m e ≡ true → (e2 : Event) → e2.irq ≡ e.irq → e2.status ≡ e.status → Rooms e2 → (step v e2).end ≡ Running → AlikeStep e2
  interrupt_step taken e2 same_irq same_status rooms runs =
      let next : Machine → Machine = λ s. record (at_handler_entry v s v.pc (bit_or v.biv (e2.irq * 2 ^ 5))) { ccpn = e2.irq } in
      let view_taken : is_interrupt_taken v e2 ≡ true = ap (λ q. is_interrupt_taken m (record e { irq = q })) same_irq ∙ taken in
      let done_is : machine_after_event v e2 ≡ if_running (save v true) next = ap (λ t. cond t (after_interrupt v e2.irq) (after_fetch_result v e2 (fetched_instruction v))) view_taken in
      let room = rooms.own_room true (save_runs true next (sym (ap (λ (x : Machine). x.end) done_is) ∙ done_runs v e2 k.running runs)) in
      let is : machine_after_event v e2 ≡ next (with_context_saved v true) = done_is ∙ ap (λ s. if_running s next) (view_stands true room) ∙ then_-running (with_context_saved v true) next k.running in
      let step_at : step v e2 ≡ with_event (next (with_context_saved v true)) e2 = step-is v e2 k.running (ap (λ (x : Machine). x.end) is ∙ k.running) ∙ ap (λ (x : Machine). with_event x e2) is in
      Alike-interrupt ok Kept kept m mem pcxi fcx k.words k.view_words k.running k.twins (rooms.all_room true room (ap (λ (x : Machine). x.mem) step_at) (ap (λ (x : Machine). x.pcxi) step_at)) room e e2 taken same_irq same_status

  -- the same instruction in both, and no interrupt
  module _ (shape : Shape) (size : ℕ) (at : AtPoint b view plan tasks u v e s shape size) (same : HasCodeOf image view m.pc size) (none : is_interrupt_taken m e ≡ false) where
    abbrev e2 : Event
    e2 = event_for m e shape

    in_plan : IsCode view (view_plan_of plan tasks u) m.pc shape size → IsCode view plan m.pc shape size
    in_plan c = record { even = c.even; bytes = c.bytes; inst = c.inst; spells = record { spelled = c.spells.spelled; in_rom = c.spells.in_rom; held = c.spells.held }; shaped = c.shaped; sized = c.sized }

    here : fetched_instruction m ≡ Ok (shape, size)
    here = fetched_code image plan m shape size ok k.rom (same_code image (view) plan m.pc size shape same (in_plan at.code))

    there : fetched_instruction v ≡ Ok (shape, size)
    there = fetched_code view (view_plan_of plan tasks u) v shape size view_ok k.view_rom at.code

    runs_on : (step v e2).end ≡ Running → (after_instruction v e2 shape size).end ≡ Running
    runs_on runs = sym (ap (λ (x : Machine). x.end) (done-is v e2 shape size none there)) ∙ done_runs v e2 k.running runs

    plainly : (mem2 : Memory) → ((x : ℕ) → IsInAreas plan x → finite.get mem2 x ≡ finite.get m.mem x) → ((x : ℕ) → is_mapped mem2 x ≡ is_mapped m.mem x) → Plainly m v (after_instruction m e shape size) (after_instruction v e2 shape size) mem2 mem
        → ((x : ℕ) → Kept x → finite.get mem2 x ≡ finite.get m.mem x) → AlikeStep e2
    plainly mem2 areas maps p keeps = Alike-plain ok Kept m mem pcxi fcx k.running k.twins mem2 areas maps e e2 shape shape size p keeps none refl refl here there

    same_memory : Plainly m v (after_instruction m e shape size) (after_instruction v e2 shape size) m.mem mem → AlikeStep e2
    same_memory p = plainly m.mem (λ x at. refl) (λ x. refl) p (λ x is. refl)

    rooms_for : Rooms e2 → (upper : Bool) (next : Machine → Machine) → after_instruction v e2 shape size ≡ if_running (save v upper) next → (next (with_context_saved v upper)).mem ≡ (with_context_saved v upper).mem → (next (with_context_saved v upper)).pcxi ≡ (with_context_saved v upper).pcxi → (step v e2).end ≡ Running
        → (sum_of_first n (λ w. length (chain_of w)) < plan.areas - plan.reserve) × (length seen < plan.areas - plan.reserve)
    rooms_for rooms upper next is mem_is pcxi_is runs =
        let room = rooms.own_room upper (save_runs upper next (sym (ap (λ (x : Machine). x.end) is) ∙ runs_on runs)) in
        let does_is : after_instruction v e2 shape size ≡ next (with_context_saved v upper) = is ∙ ap (λ s. if_running s next) (view_stands upper room) ∙ then_-running (with_context_saved v upper) next k.running in
        let step_at : step v e2 ≡ with_event (next (with_context_saved v upper)) e2 = step_does v e2 shape size k.running none there (runs_on runs) ∙ ap (λ (x : Machine). with_event x e2) does_is in
        (rooms.all_room upper room (ap (λ (x : Machine). x.mem) step_at ∙ mem_is) (ap (λ (x : Machine). x.pcxi) step_at ∙ pcxi_is), room)

    -- ---- restores
    -- the view restores a context, so both have one
    with_context : (upper : Bool) (next : Machine → Machine) → after_instruction v e2 shape size ≡ if_running (restore v upper) next → (step v e2).end ≡ Running
        → ((l : ℕ) (used : List ℕ) → chain_of u ≡ l ∷ used → (j : ℕ) (seen2 : List ℕ) → Twins plan n u word_of chain_of (j ∷ seen2) m.mem m.pcxi m.fcx m.lcx mem pcxi fcx → is_last_context_of_kind v upper ≡ true → AlikeStep e2) → AlikeStep e2
    with_context upper next is runs step_of =
        let r = restores_from v upper (back_runs v upper next (sym (ap (λ (x : Machine). x.end) is) ∙ runs_on runs)) in
        by_lists (chain_of u) refl seen refl r.some r.kind
      where
        by_lists : (links : List ℕ) → chain_of u ≡ links → (sees : List ℕ) → seen ≡ sees → link_in pcxi ≢ 0 → is_last_context_of_kind v upper ≡ true → AlikeStep e2
        by_lists links is_l [] is_s some kind = absurd (some (subst (Links mem pcxi) is_s (k.twins).view_links))
        by_lists [] is_l (j ∷ seen2) is_s some kind =
            absurd (let long = SameContexts-length m.mem mem m.pcxi pcxi (chain_of u) seen (k.twins).same in let l0 : length (chain_of u) ≡ 0 = ap length is_l in let l1 : length seen ≡ suc (length seen2) = ap length is_s in omega arith)
        by_lists (l ∷ used) is_l (j ∷ seen2) is_s some kind = step_of l used is_l j seen2 (subst (λ ss. Twins plan n u word_of chain_of ss m.mem m.pcxi m.fcx m.lcx mem pcxi fcx) is_s k.twins) kind

  core_same : (number : ℕ) → (number ≢ 0xfe00) × (number ≢ 0xfe38) × (number ≢ 0xfe3c) → core_register v e number ≡ core_register m e number
  core_same number apart = rw (ne_eqb number 0xfe00 apart.0, ne_eqb number 0xfe38 apart.1) refl

  -- ---- by the instruction
  pub outside_step : (shape : Shape) (size : ℕ) → AtPoint b view plan tasks u v e s shape size → HasCodeOf image view m.pc size → is_interrupt_taken m e ≡ false → Rooms (event_for m e shape) → StoreIs shape → (step v (event_for m e shape)).end ≡ Running
      → AlikeStep (event_for m e shape)
  outside_step (Compute op dst x y) size at same none rooms store runs = same_memory (Compute op dst x y) size at same none (plain-compute m mem pcxi fcx e e op dst x y size)
  outside_step (Scaled dst base index j) size at same none rooms store runs = same_memory (Scaled dst base index j) size at same none (plain-scaled m mem pcxi fcx e e dst base index j size)
  outside_step (Load dst base offset width signed after) size at same none rooms store runs =
      let shape = Load dst base offset width signed after in
      let e2 = event_for m e shape in
      let is = address-same m mem pcxi fcx e e base offset after in
      let bounded = IsCode-bounded view (view_plan_of plan tasks u) m.pc shape size at.code in
      elim (cases_Bool (is_trapping_access e (access_address m base offset after) width)) [
        | inl trapped ↦
            let view_yes : is_trapping_instruction v e2 shape ≡ true = ap (λ x. is_trapping_access e x width) is ∙ trapped in
            let r = rooms_for shape size at same none rooms true (λ s. record (at_handler_entry v s v.pc (bit_or v.btv (2 * 2 ^ 5))) { d = set s.d 15 4 }) (does-trapped v e2 size shape view_yes) refl refl runs in
            Alike-misaligned ok Kept kept m mem pcxi fcx k.words k.view_words k.running k.twins r.0 r.1 e e2 none refl refl shape size trapped view_yes (here shape size at same none) (there shape size at same none)
        | inr free_of ↦ same_memory shape size at same none (plain-load m mem pcxi fcx e e2 dst base offset width signed after size free_of refl (same_load dst base offset width signed after size at (access_lt base offset after bounded.1)))
      ]
  outside_step (Store src base offset width after) size at same none rooms store runs =
      let shape = Store src base offset width after in
      let is = address-same m mem pcxi fcx e e base offset after in
      elim (cases_Bool (is_trapping_access e (access_address m base offset after) width)) [
        | inl trapped ↦
            let view_yes : is_trapping_instruction v e shape ≡ true = ap (λ x. is_trapping_access e x width) is ∙ trapped in
            let r = rooms_for shape size at same none rooms true (λ s. record (at_handler_entry v s v.pc (bit_or v.btv (2 * 2 ^ 5))) { d = set s.d 15 4 }) (does-trapped v e size shape view_yes) refl refl runs in
            Alike-misaligned ok Kept kept m mem pcxi fcx k.words k.view_words k.running k.twins r.0 r.1 e e none refl refl shape size trapped view_yes (here shape size at same none) (there shape size at same none)
        | inr free_of ↦
            let st = store free_of in
            plainly shape size at same none (with_bytes m.mem (access_address m base offset after) (reg m src) width)
            (λ x inside. store_keeps_areas plan ok image m.mem (access_address m base offset after) (reg m src) width st.0 x inside)
            (λ x. is_mapped-with_bytes m.mem (access_address m base offset after) (reg m src) width x)
            (plain-store m mem pcxi fcx e e src base offset width after size free_of refl st.1) st.2
      ]
  outside_step (Branch test x y by lowers) size at same none rooms store runs = same_memory (Branch test x y by lowers) size at same none (plain-branch m mem pcxi fcx e e test x y by lowers size)
  outside_step (Jump to) size at same none rooms store runs = same_memory (Jump to) size at same none (plain-jump m mem pcxi fcx e e to size)
  outside_step (Call to) size at same none rooms store runs =
      let r = rooms_for (Call to) size at same none rooms true (λ s. record s { a = set s.a 11 (wrapping_sum v.pc size); pc = target_address v to }) (does-call v e to size) refl refl runs in
      Alike-call ok Kept kept m mem pcxi fcx k.words k.view_words k.running k.twins r.0 r.1 e e to size none refl refl (here (Call to) size at same none) (there (Call to) size at same none)
  outside_step Ret size at same none rooms store runs =
      with_context Ret size at same none true (λ r. record r { pc = a11 v / 2 * 2 }) (does-ret v e size) runs
      (λ l used is j seen2 t kind. Alike-ret ok Kept kept m mem pcxi fcx k.words k.view_words k.running l used is j seen2 t e e size none refl refl kind (here Ret size at same none) (there Ret size at same none))
  outside_step Rfe size at same none rooms store runs =
      with_context Rfe size at same none true (λ r. record r { pc = a11 v / 2 * 2; ie = pie_of v.core v.pcxi; ccpn = pcpn_of v.core v.pcxi }) (does-rfe v e size) runs
      (λ l used is j seen2 t kind. Alike-rfe ok Kept kept m mem pcxi fcx k.words k.view_words k.running l used is j seen2 t e e size none refl refl kind (here Rfe size at same none) (there Rfe size at same none))
  outside_step Svlcx size at same none rooms store runs =
      let r = rooms_for Svlcx size at same none rooms false (with_pc_advanced size) (does-svlcx v e size) refl refl runs in
      Alike-svlcx ok Kept kept m mem pcxi fcx k.words k.view_words k.running k.twins r.0 r.1 e e none refl refl size (here Svlcx size at same none) (there Svlcx size at same none)
  outside_step Rslcx size at same none rooms store runs =
      with_context Rslcx size at same none false (with_pc_advanced size) (does-rslcx v e size) runs
      (λ l used is j seen2 t kind. Alike-rslcx ok Kept kept m mem pcxi fcx k.words k.view_words k.running l used is j seen2 t e e size none refl refl kind (here Rslcx size at same none) (there Rslcx size at same none))
  outside_step (Bisr c) size at same none rooms store runs =
      let r = rooms_for (Bisr c) size at same none rooms false (λ s. record (with_pc_advanced size s) { ccpn = c; ie = true }) (does-bisr v e size c) refl refl runs in
      Alike-bisr ok Kept kept m mem pcxi fcx k.words k.view_words k.running k.twins r.0 r.1 e e none refl refl c size (here (Bisr c) size at same none) (there (Bisr c) size at same none)
  outside_step Enable size at same none rooms store runs = same_memory Enable size at same none (plain-enable m mem pcxi fcx e e size)
  outside_step Disable size at same none rooms store runs = same_memory Disable size at same none (plain-disable m mem pcxi fcx e e size)
  outside_step (Syscall tin) size at same none rooms store runs =
      let r = rooms_for (Syscall tin) size at same none rooms true (λ s. record (at_handler_entry v s (wrapping_sum v.pc size) (bit_or v.btv (6 * 2 ^ 5))) { d = set s.d 15 tin }) (does-syscall v e size tin) refl refl runs in
      Alike-syscall ok Kept kept m mem pcxi fcx k.words k.view_words k.running k.twins r.0 r.1 e e none refl refl tin size (here (Syscall tin) size at same none) (there (Syscall tin) size at same none)
  outside_step (Mfcr dst number) size at same none rooms store runs = same_memory (Mfcr dst number) size at same none (plain-mfcr m mem pcxi fcx e e dst number size (core_same number at.links))
  outside_step (Mtcr src number) size at same none rooms store runs = absurd at.writes
  outside_step Nothing size at same none rooms store runs = same_memory Nothing size at same none (plain-nothing m mem pcxi fcx e e size)
