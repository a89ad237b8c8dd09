-- One event of a view keeps its levels, by the instruction.
use Rattle.std.proofs.Common.{◌≡◌, ◌≢◌, ℕ, ◌-◌, ◌*◌, ◌/◌, ◌^◌, ◌<◌, inl, inr, Bool, true, false, cond, List, [], ◌∷◌, length, set, Ok, Result, refl, sym, ap, ◌∙◌, subst, arith, bit_or}
use Rattle.std.proofs.lemmas.Bool.{cases_Bool, false≢true, not-true}
use Rattle.csa_chain.specs.MemoryBytes.{Memory, with_bytes}
use Rattle.csa_chain.specs.Chain.{link_in}
use Rattle.csa_chain.specs.ContextWords.{ul_of, pie_of, pcpn_of}
use Rattle.csa_chain.proofs.ChainLaws.{Links, SameAreas}
use Rattle.tcd_plan.specs.PlanData.{PlanData, IsPlan}
use Rattle.tc_isa.specs.declared.shapes.Shape.{Shape}
use Rattle.tc_isa.specs.declared.shapes.Shape.TheVariants.{Compute, Scaled, Load, Store, Branch, Jump, Call, Ret, Rfe, Svlcx, Rslcx, Bisr, Enable, Disable, Syscall, Mfcr, Mtcr, Nothing}
use Rattle.tc_machine.specs.declared.events.Event.{Event}
use Rattle.tc_machine.specs.declared.events.Cause.{Cause}
use Rattle.tc_machine.specs.declared.events.End.TheVariants.{Running}
use Rattle.tc_machine.specs.declared.state.Machine.{Machine}
use Rattle.tc_machine.specs.Machine.{reg, a11, if_running, IsMachine}
use Rattle.tc_machine.specs.Instructions.{wrapping_sum, with_pc_advanced, access_address, is_trapping_access, target_address, after_instruction, is_trapping_instruction}
use Rattle.tc_machine.specs.Handlers.{at_handler_entry, after_interrupt}
use Rattle.tc_machine.specs.Stepping.{is_interrupt_taken, after_fetch_result, machine_after_event, step}
use Rattle.tc_machine.specs.SavesAndRestores.{with_context_saved, save, is_last_context_of_kind, with_context_restored, restore}
use Rattle.tc_machine.specs.Fetching.{fetched_instruction, fetched_size}
use Rattle.tc_machine.proofs.Saves.{then_-running, restore-is}
use Rattle.tc_machine.proofs.Steps.{with_event, step-is, step_does, done-is, does-call, does-ret}
use Rattle.tc_machine.proofs.Areas.{Areas}
use Rattle.vd_transfer.specs.Registers.{WritesNoFixedRegister}
use Rattle.depth_cert.specs.declared.keys.Key.{Key}
use Rattle.cfg_recover.specs.Entries.{call_key, handler_key}
use Rattle.cfg_recover.specs.Frames.{RunFrame, frames_after_edge, frames_after_step}
use Rattle.cfg_recover.specs.StepEdges.{EdgeWay, irq, aln, edge_way_of_shape, edge_way_by_trap, edge_way_in_fetch}
use Rattle.cfg_recover.proofs.Points.{does-rfe, does-svlcx, does-rslcx, does-bisr, does-syscall, does-trapped}
use Rattle.cfg_recover.proofs.Went.{changed}
use Rattle.task_chains.specs.Rule17.{IsNoBisr}
use Rattle.task_chains.proofs.Levels.{IsBase, areas_same}
use Rattle.task_chains.proofs.LevelSteps.{keys_of, Leveled, stands, leveled_lower, leveled_upper, leveled_lower_back, leveled_upper_back, leveled_plain}
use Rattle.task_chains.proofs.Backs.{restores_from, restored_end}
use Rattle.task_chains.proofs.Plain.{Plainly, plain-compute, plain-scaled, plain-mfcr, plain-enable, plain-disable, plain-nothing, plain-jump, plain-branch, plain-load, plain-store}
use Rattle.task_chains.proofs.Outside.{done_runs, back_runs, dead≢running}

-- only a call returns, and only a handler returns from an exception
abbrev pub EndsBy : Key → Shape → Type 0
EndsBy key Ret = key.kind ≡ 1
EndsBy key Rfe = key.kind ≢ 1
EndsBy key _ = Unit {0}

-- a store is to no mapped byte
abbrev pub StoresNothing : Machine → Event → Shape → Type 0
StoresNothing v e (Store src base offset size after) = is_trapping_access e (access_address v base offset after) size ≡ false → with_bytes v.mem (access_address v base offset after) (reg v src) size ≡ v.mem
StoresNothing v e _ = Unit {0}

dead_runs : (s : Machine) (next : Machine → Machine) → (if_running s next).end ≡ Running → s.end ≡ Running
dead_runs s next g = dead≢running s.end s next refl g

module _ {plan : PlanData} (ok : IsPlan plan) (level : ℕ) (v : Machine) (words : IsMachine v) (running : v.end ≡ Running) (f : RunFrame) (fs : List RunFrame) (l : Leveled level v (f ∷ fs)) (free : List ℕ) (areas : Areas plan v.mem v.fcx v.lcx (l.seen) free) (e : Event)
    (rooms : (upper : Bool) → (save v upper).end ≡ Running → length (l.seen) < plan.areas - plan.reserve) (runs : (step v e).end ≡ Running) where
  not_base : (kind entry prio : ℕ) → IsBase (handler_key kind entry prio) → ⊥
  not_base kind entry prio base = false≢true (sym base.1)

  saves_on : (upper : Bool) (next : Machine → Machine) → (if_running (save v upper) next).end ≡ Running → save v upper ≡ with_context_saved v upper
  saves_on upper next g = stands ok level v words running f fs l free areas e (rooms upper (dead_runs (save v upper) next g)) upper

  room_on : (upper : Bool) (next : Machine → Machine) → (if_running (save v upper) next).end ≡ Running → length (l.seen) < plan.areas - plan.reserve
  room_on upper next g = rooms upper (dead_runs (save v upper) next g)

  abbrev Next : Type 0
  Next = Leveled level (step v e) (frames_after_step v e (f ∷ fs))

  -- ---- an interrupt
  pub level_interrupt : is_interrupt_taken v e ≡ true → Next
  level_interrupt taken =
      let next : Machine → Machine = λ s. record (at_handler_entry v s v.pc (bit_or v.biv (e.irq * 2 ^ 5))) { ccpn = e.irq } in
      let done_is : machine_after_event v e ≡ if_running (save v true) next = ap (λ t. cond t (after_interrupt v e.irq) (after_fetch_result v e (fetched_instruction v))) taken in
      let runs2 : (if_running (save v true) next).end ≡ Running = sym (ap (λ (x : Machine). x.end) done_is) ∙ done_runs v e running runs in
      let is : machine_after_event v e ≡ next (with_context_saved v true) = done_is ∙ ap (λ s. if_running s next) (saves_on true next runs2) ∙ then_-running (with_context_saved v true) next running in
      let step_is : step v e ≡ with_event (next (with_context_saved v true)) e = step-is v e running (ap (λ (x : Machine). x.end) is ∙ running) ∙ ap (λ (x : Machine). with_event x e) is in
      let keys_are : keys_of (frames_after_step v e (f ∷ fs)) ≡ handler_key 2 (step v e).pc e.irq ∷ keys_of (f ∷ fs) =
      ap (λ t. keys_of (frames_after_edge v.pc (wrapping_sum v.pc (fetched_size (fetched_instruction v))) e.irq (cond t (irq (step v e).pc) (edge_way_in_fetch v e (fetched_instruction v) (step v e).pc)) (f ∷ fs))) taken
      in
      subst (λ (x : Machine). Leveled level x (frames_after_step v e (f ∷ fs))) (sym step_is)
      (leveled_upper ok level v words running f fs l free areas e (room_on true next runs2) (with_event (next (with_context_saved v true)) e) (frames_after_step v e (f ∷ fs)) (handler_key 2 (step v e).pc e.irq) refl refl refl keys_are
      (λ k. absurd (let t : 2 ≡ 1 = k in omega arith)) (λ base. absurd (not_base 2 (step v e).pc e.irq base)))

  -- ---- an instruction
  module _ (shape : Shape) (size : ℕ) (none : is_interrupt_taken v e ≡ false) (at : fetched_instruction v ≡ Ok (shape, size)) where
    abbrev way : EdgeWay
    way = edge_way_by_trap v e shape (step v e).pc

    keys_are : keys_of (frames_after_step v e (f ∷ fs)) ≡ keys_of (frames_after_edge v.pc (wrapping_sum v.pc (fetched_size (fetched_instruction v))) e.irq way (f ∷ fs))
    keys_are =
        ap (λ t. keys_of (frames_after_edge v.pc (wrapping_sum v.pc (fetched_size (fetched_instruction v))) e.irq (cond t (irq (step v e).pc) (edge_way_in_fetch v e (fetched_instruction v) (step v e).pc)) (f ∷ fs))) none
        ∙ ap (λ (r : Result (Shape × ℕ) Cause). keys_of (frames_after_edge v.pc (wrapping_sum v.pc (fetched_size (fetched_instruction v))) e.irq (edge_way_in_fetch v e r (step v e).pc) (f ∷ fs))) at

    does_runs : (after_instruction v e shape size).end ≡ Running
    does_runs = sym (ap (λ (x : Machine). x.end) (done-is v e shape size none at)) ∙ done_runs v e running runs

    step_is : (x : Machine) → after_instruction v e shape size ≡ x → step v e ≡ with_event x e
    step_is x is = step_does v e shape size running none at does_runs ∙ ap (λ (y : Machine). with_event y e) is

    to_step : (x : Machine) → after_instruction v e shape size ≡ x → Leveled level (with_event x e) (frames_after_step v e (f ∷ fs)) → Next
    to_step x is h = subst (λ (y : Machine). Leveled level y (frames_after_step v e (f ∷ fs))) (sym (step_is x is)) h

    -- instructions that stay in their frame
    plain_on : (mem : Memory) → mem ≡ v.mem → Plainly v v (after_instruction v e shape size) (after_instruction v e shape size) mem v.mem → keys_of (frames_after_edge v.pc (wrapping_sum v.pc (fetched_size (fetched_instruction v))) e.irq way (f ∷ fs)) ≡ keys_of (f ∷ fs) → Next
    plain_on mem same p stay =
        to_step (changed v p.d p.a p.pc p.ie mem) p.is
        (leveled_plain ok level v words running f fs l free areas e (with_event (changed v p.d p.a p.pc p.ie mem) e) (frames_after_step v e (f ∷ fs))
        (subst (λ y. SameAreas v.mem y l.seen) (sym same) (areas_same v.mem l.seen)) refl refl refl (keys_are ∙ stay))

    -- instructions that save
    forth : (upper : Bool) (next : Machine → Machine) → after_instruction v e shape size ≡ if_running (save v upper) next → (save v upper ≡ with_context_saved v upper → (next (with_context_saved v upper)).end ≡ v.end) → (length (l.seen) < plan.areas - plan.reserve → Leveled level (with_event (next (with_context_saved v upper)) e) (frames_after_step v e (f ∷ fs))) → Next
    forth upper next is ends h =
        let runs2 : (if_running (save v upper) next).end ≡ Running = sym (ap (λ (x : Machine). x.end) is) ∙ does_runs in
        to_step (next (with_context_saved v upper)) (is ∙ ap (λ s. if_running s next) (saves_on upper next runs2) ∙ then_-running (with_context_saved v upper) next running) (h (room_on upper next runs2))

    -- instructions that restore
    back : (upper : Bool) (next : Machine → Machine) → after_instruction v e shape size ≡ if_running (restore v upper) next
        → ((j : ℕ) (rest : List ℕ) → l.seen ≡ j ∷ rest → is_last_context_of_kind v upper ≡ true → Leveled level (with_event (next (with_context_restored v upper)) e) (frames_after_step v e (f ∷ fs))) → Next
    back upper next is h =
        let r = restores_from v upper (back_runs v upper next (sym (ap (λ (x : Machine). x.end) is) ∙ does_runs)) in
        let done_is : after_instruction v e shape size ≡ next (with_context_restored v upper) = is ∙ ap (λ s. if_running s next) (restore-is v upper r.some r.kind r.area) ∙ then_-running (with_context_restored v upper) next (restored_end v upper ∙ running) in
        to_step (next (with_context_restored v upper)) done_is (by_list l.seen refl r.some r.kind)
      where
        by_list : (ls : List ℕ) → l.seen ≡ ls → link_in v.pcxi ≢ 0 → is_last_context_of_kind v upper ≡ true → Leveled level (with_event (next (with_context_restored v upper)) e) (frames_after_step v e (f ∷ fs))
        by_list [] is_l some kind = absurd (some (subst (Links v.mem v.pcxi) is_l l.links))
        by_list (j ∷ rest) is_l some kind = h j rest is_l kind

  -- a trap of a misaligned access
  trapped : (shape : Shape) (size : ℕ) → is_interrupt_taken v e ≡ false → fetched_instruction v ≡ Ok (shape, size) → is_trapping_instruction v e shape ≡ true → Next
  trapped shape size none at traps_is =
      let next : Machine → Machine = λ s. record (at_handler_entry v s v.pc (bit_or v.btv (2 * 2 ^ 5))) { d = set s.d 15 4 } in
      let stay : keys_of (frames_after_edge v.pc (wrapping_sum v.pc (fetched_size (fetched_instruction v))) e.irq (edge_way_by_trap v e shape (step v e).pc) (f ∷ fs)) ≡ handler_key 4 (step v e).pc (f.key).prio ∷ keys_of (f ∷ fs) =
      ap (λ t. keys_of (frames_after_edge v.pc (wrapping_sum v.pc (fetched_size (fetched_instruction v))) e.irq (cond t (aln (step v e).pc) (edge_way_of_shape shape (step v e).pc)) (f ∷ fs))) traps_is
      in
      forth shape size none at true next (does-trapped v e size shape traps_is) (λ _. refl)
      (λ room. leveled_upper ok level v words running f fs l free areas e room (with_event (next (with_context_saved v true)) e) (frames_after_step v e (f ∷ fs)) (handler_key 4 (step v e).pc (f.key).prio) refl refl refl
      (keys_are shape size none at ∙ stay) (λ k. absurd (let t : 4 ≡ 1 = k in omega arith)) (λ base. absurd (not_base 4 (step v e).pc (f.key).prio base)))

  not_trapped : (shape : Shape) → is_trapping_instruction v e shape ≡ false → keys_of (frames_after_edge v.pc (wrapping_sum v.pc (fetched_size (fetched_instruction v))) e.irq (edge_way_of_shape shape (step v e).pc) (f ∷ fs)) ≡ keys_of (f ∷ fs)
      → keys_of (frames_after_edge v.pc (wrapping_sum v.pc (fetched_size (fetched_instruction v))) e.irq (edge_way_by_trap v e shape (step v e).pc) (f ∷ fs)) ≡ keys_of (f ∷ fs)
  not_trapped shape no_trap stay = ap (λ t. keys_of (frames_after_edge v.pc (wrapping_sum v.pc (fetched_size (fetched_instruction v))) e.irq (cond t (aln (step v e).pc) (edge_way_of_shape shape (step v e).pc)) (f ∷ fs))) no_trap ∙ stay

  pub level_step : (shape : Shape) (size : ℕ) → is_interrupt_taken v e ≡ false → fetched_instruction v ≡ Ok (shape, size) → WritesNoFixedRegister shape → EndsBy f.key shape → (IsBase f.key → IsNoBisr shape) → StoresNothing v e shape → Next
  level_step (Compute op dst x y) size none at writes ends no_bisr stores = plain_on (Compute op dst x y) size none at v.mem refl (plain-compute v v.mem v.pcxi v.fcx e e op dst x y size) refl
  level_step (Scaled dst base index j) size none at writes ends no_bisr stores = plain_on (Scaled dst base index j) size none at v.mem refl (plain-scaled v v.mem v.pcxi v.fcx e e dst base index j size) refl
  level_step (Load dst base offset width signed after) size none at writes ends no_bisr stores =
      elim (cases_Bool (is_trapping_access e (access_address v base offset after) width)) [
        | inl yes_trap ↦ trapped (Load dst base offset width signed after) size none at yes_trap
        | inr no_trap ↦ plain_on (Load dst base offset width signed after) size none at v.mem refl (plain-load v v.mem v.pcxi v.fcx e e dst base offset width signed after size no_trap refl refl)
            (not_trapped (Load dst base offset width signed after) no_trap refl)
      ]
  level_step (Store src base offset width after) size none at writes ends no_bisr stores =
      elim (cases_Bool (is_trapping_access e (access_address v base offset after) width)) [
        | inl yes_trap ↦ trapped (Store src base offset width after) size none at yes_trap
        | inr no_trap ↦ plain_on (Store src base offset width after) size none at (with_bytes v.mem (access_address v base offset after) (reg v src) width) (stores no_trap)
            (plain-store v v.mem v.pcxi v.fcx e e src base offset width after size no_trap refl (stores no_trap)) (not_trapped (Store src base offset width after) no_trap refl)
      ]
  level_step (Branch test x y by lowers) size none at writes ends no_bisr stores = plain_on (Branch test x y by lowers) size none at v.mem refl (plain-branch v v.mem v.pcxi v.fcx e e test x y by lowers size) refl
  level_step (Jump target) size none at writes ends no_bisr stores = plain_on (Jump target) size none at v.mem refl (plain-jump v v.mem v.pcxi v.fcx e e target size) refl
  level_step (Call target) size none at writes ends no_bisr stores =
      let next : Machine → Machine = λ s. record s { a = set s.a 11 (wrapping_sum v.pc size); pc = target_address v target } in
      forth (Call target) size none at true next (does-call v e target size) (λ _. refl)
      (λ room. leveled_upper ok level v words running f fs l free areas e room (with_event (next (with_context_saved v true)) e) (frames_after_step v e (f ∷ fs)) (call_key f.key (step v e).pc) refl refl refl (keys_are (Call target) size none at)
      (λ k base. base) (λ base. (refl, base)))
  level_step Ret size none at writes ends no_bisr stores =
      let next : Machine → Machine = λ r. record r { pc = a11 v / 2 * 2 } in
      back Ret size none at true next (does-ret v e size)
      (λ j rest is kind. leveled_upper_back ok level v words running f fs l free areas e j rest is (with_event (next (with_context_restored v true)) e) (frames_after_step v e (f ∷ fs)) refl refl refl (keys_are Ret size none at) kind (λ k. refl) (λ k. absurd (k ends)) (inl ends))
  level_step Rfe size none at writes ends no_bisr stores =
      let next : Machine → Machine = λ r. record r { pc = a11 v / 2 * 2; ie = pie_of v.core v.pcxi; ccpn = pcpn_of v.core v.pcxi } in
      back Rfe size none at true next (does-rfe v e size)
      (λ j rest is kind. leveled_upper_back ok level v words running f fs l free areas e j rest is (with_event (next (with_context_restored v true)) e) (frames_after_step v e (f ∷ fs)) refl refl refl (keys_are Rfe size none at) kind (λ k. absurd (ends k)) (λ k. refl) (inr ends))
  level_step Svlcx size none at writes ends no_bisr stores =
      forth Svlcx size none at false (with_pc_advanced size) (does-svlcx v e size) (λ _. refl)
      (λ room. leveled_lower ok level v words running f fs l free areas e room (with_event (with_pc_advanced size (with_context_saved v false)) e) (frames_after_step v e (f ∷ fs)) refl refl refl (keys_are Svlcx size none at) (λ base. refl))
  level_step Rslcx size none at writes ends no_bisr stores =
      back Rslcx size none at false (with_pc_advanced size) (does-rslcx v e size)
      (λ j rest is kind. leveled_lower_back ok level v words running f fs l free areas e j rest is (with_event (with_pc_advanced size (with_context_restored v false)) e) (frames_after_step v e (f ∷ fs)) refl refl refl refl (keys_are Rslcx size none at) (not-true (ul_of v.core v.pcxi) kind))
  level_step (Bisr c) size none at writes ends no_bisr stores =
      let next : Machine → Machine = λ s. record (with_pc_advanced size s) { ccpn = c; ie = true } in
      forth (Bisr c) size none at false next (does-bisr v e size c) (λ _. refl)
      (λ room. leveled_lower ok level v words running f fs l free areas e room (with_event (next (with_context_saved v false)) e) (frames_after_step v e (f ∷ fs)) refl refl refl (keys_are (Bisr c) size none at) (λ base. absurd (no_bisr base)))
  level_step Enable size none at writes ends no_bisr stores = plain_on Enable size none at v.mem refl (plain-enable v v.mem v.pcxi v.fcx e e size) refl
  level_step Disable size none at writes ends no_bisr stores = plain_on Disable size none at v.mem refl (plain-disable v v.mem v.pcxi v.fcx e e size) refl
  level_step (Syscall tin) size none at writes ends no_bisr stores =
      let next : Machine → Machine = λ s. record (at_handler_entry v s (wrapping_sum v.pc size) (bit_or v.btv (6 * 2 ^ 5))) { d = set s.d 15 tin } in
      forth (Syscall tin) size none at true next (does-syscall v e size tin) (λ _. refl)
      (λ room. leveled_upper ok level v words running f fs l free areas e room (with_event (next (with_context_saved v true)) e) (frames_after_step v e (f ∷ fs)) (handler_key 3 (step v e).pc (f.key).prio) refl refl refl (keys_are (Syscall tin) size none at)
      (λ k. absurd (let t : 3 ≡ 1 = k in omega arith)) (λ base. absurd (not_base 3 (step v e).pc (f.key).prio base)))
  level_step (Mfcr dst number) size none at writes ends no_bisr stores = plain_on (Mfcr dst number) size none at v.mem refl (plain-mfcr v v.mem v.pcxi v.fcx e e dst number size refl) refl
  level_step (Mtcr src number) size none at writes ends no_bisr stores = absurd writes
  level_step Nothing size none at writes ends no_bisr stores = plain_on Nothing size none at v.mem refl (plain-nothing v v.mem v.pcxi v.fcx e e size) refl
