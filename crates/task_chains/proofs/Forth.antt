-- A step of the machine, compared with the same step of its view: lower contexts that are saved,
-- and traps.
use Rattle.std.proofs.Common.{◌≡◌, ℕ, ◌-◌, ◌*◌, ◌^◌, ◌<◌, Bool, true, false, List, length, set, Ok, refl, sym, ap, ◌∙◌, subst, bit_or}
use Rattle.csa_chain.specs.MemoryBytes.{Memory}
use Rattle.tcd_plan.specs.PlanData.{PlanData, IsPlan}
use Rattle.tc_isa.specs.declared.shapes.Shape.{Shape}
use Rattle.tc_isa.specs.declared.shapes.Shape.TheVariants.{Svlcx, Bisr, Syscall}
use Rattle.tc_machine.specs.declared.events.Event.{Event}
use Rattle.tc_machine.specs.declared.events.End.TheVariants.{Running}
use Rattle.tc_machine.specs.declared.state.Machine.{Machine}
use Rattle.tc_machine.specs.Machine.{if_running, IsMachine}
use Rattle.tc_machine.specs.Instructions.{wrapping_sum, with_pc_advanced, after_instruction, is_trapping_instruction}
use Rattle.tc_machine.specs.Handlers.{at_handler_entry}
use Rattle.tc_machine.specs.SavesAndRestores.{with_context_saved, save}
use Rattle.tc_machine.specs.Fetching.{fetched_instruction}
use Rattle.tc_machine.specs.Stepping.{is_interrupt_taken, step}
use Rattle.tcd_plan.specs.MappedAddresses.{IsInAreas}
use Rattle.tc_machine.proofs.Saves.{then_-running}
use Rattle.tc_machine.proofs.Steps.{with_event, step_does}
use Rattle.cfg_recover.proofs.Points.{does-svlcx, does-bisr, does-syscall, does-trapped}
use Rattle.csa_chain.specs.SeveralChains.{sum_of_first}
use Rattle.task_chains.proofs.Twins.{Twins}
use Rattle.task_chains.proofs.Alike.{seen_as, Alike, saves, view_saves, Alike-saved}

module _ {plan : PlanData} (ok : IsPlan plan) (Kept : ℕ → Type 0) (kept : (x : ℕ) → Kept x → IsInAreas plan x → ⊥) {n u : ℕ} {word_of : ℕ → ℕ} {chain_of : ℕ → List ℕ} {seen : List ℕ} (m : Machine) (view : Memory) (pcxi fcx : ℕ)
    (words : IsMachine m) (view_words : IsMachine (seen_as m view pcxi fcx)) (running : m.end ≡ Running)
    (t : Twins plan n u word_of chain_of seen m.mem m.pcxi m.fcx m.lcx view pcxi fcx)
    (room : sum_of_first n (λ w. length (chain_of w)) < plan.areas - plan.reserve) (view_room : length seen < plan.areas - plan.reserve)
    (e e2 : Event) (none : is_interrupt_taken m e ≡ false) (same_irq : e2.irq ≡ e.irq) (same_status : e2.status ≡ e.status) where
  abbrev v : Machine
  v = seen_as m view pcxi fcx

  -- if both are alike after the save, the steps are alike
  Alike-forth : (upper : Bool) (shape : Shape) (size : ℕ) (after after2 : Machine → Machine) → after_instruction m e shape size ≡ if_running (save m upper) after → after_instruction v e2 shape size ≡ if_running (save v upper) after2
      → (after (with_context_saved m upper)).end ≡ m.end → after2 (with_context_saved v upper) ≡ seen_as (after (with_context_saved m upper)) (with_context_saved v upper).mem (with_context_saved v upper).pcxi (with_context_saved v upper).fcx
      → (after (with_context_saved m upper)).mem ≡ (with_context_saved m upper).mem → (after (with_context_saved m upper)).pcxi ≡ (with_context_saved m upper).pcxi → (after (with_context_saved m upper)).fcx ≡ (with_context_saved m upper).fcx → (after (with_context_saved m upper)).lcx ≡ m.lcx
      → fetched_instruction m ≡ Ok (shape, size) → fetched_instruction v ≡ Ok (shape, size) → Alike plan n u word_of chain_of Kept view m (step m e) (step v e2)
  Alike-forth upper shape size after after2 m_does v_does ends same mem_is pcxi_is fcx_is lcx_is at view_at =
      let view_none : is_interrupt_taken v e2 ≡ false = ap (λ q. is_interrupt_taken m (record e { irq = q })) same_irq ∙ none in
      let m_after : after_instruction m e shape size ≡ after (with_context_saved m upper) = m_does ∙ ap (λ s. if_running s after) (saves ok Kept kept m view pcxi fcx words view_words running t room view_room upper) ∙ then_-running (with_context_saved m upper) after running in
      let v_after : after_instruction v e2 shape size ≡ seen_as (after (with_context_saved m upper)) (with_context_saved v upper).mem (with_context_saved v upper).pcxi (with_context_saved v upper).fcx =
      v_does ∙ ap (λ s. if_running s after2) (view_saves ok Kept kept m view pcxi fcx words view_words running t room view_room upper) ∙ then_-running (with_context_saved v upper) after2 running ∙ same
      in
      let after_end : (after (with_context_saved m upper)).end ≡ Running = ends ∙ running in
      let m_is : step m e ≡ with_event (after (with_context_saved m upper)) e = step_does m e shape size running none at (ap (λ x. x.end) m_after ∙ after_end) ∙ ap (λ x. with_event x e) m_after in
      let v_is : step v e2 ≡ seen_as (with_event (after (with_context_saved m upper)) e) (with_context_saved v upper).mem (with_context_saved v upper).pcxi (with_context_saved v upper).fcx =
      step_does v e2 shape size running view_none view_at (ap (λ x. x.end) v_after ∙ after_end) ∙ ap (λ x. with_event x e2) v_after
      ∙ ap (λ s. seen_as (with_event (after (with_context_saved m upper)) (record e { status = s })) (with_context_saved v upper).mem (with_context_saved v upper).pcxi (with_context_saved v upper).fcx) same_status
      in
      subst (λ x. Alike plan n u word_of chain_of Kept view m x (step v e2)) (sym m_is)
      (subst (λ y. Alike plan n u word_of chain_of Kept view m (with_event (after (with_context_saved m upper)) e) y) (sym v_is)
      (Alike-saved ok Kept kept m view pcxi fcx words view_words running t room view_room upper (with_event (after (with_context_saved m upper)) e) mem_is pcxi_is fcx_is lcx_is))

  pub Alike-svlcx : (size : ℕ) → fetched_instruction m ≡ Ok (Svlcx, size) → fetched_instruction v ≡ Ok (Svlcx, size) → Alike plan n u word_of chain_of Kept view m (step m e) (step v e2)
  Alike-svlcx size at view_at = Alike-forth false Svlcx size (with_pc_advanced size) (with_pc_advanced size) (does-svlcx m e size) (does-svlcx v e2 size) refl refl refl refl refl refl at view_at

  pub Alike-bisr : (c size : ℕ) → fetched_instruction m ≡ Ok (Bisr c, size) → fetched_instruction v ≡ Ok (Bisr c, size) → Alike plan n u word_of chain_of Kept view m (step m e) (step v e2)
  Alike-bisr c size at view_at =
      Alike-forth false (Bisr c) size (λ s. record (with_pc_advanced size s) { ccpn = c; ie = true }) (λ s. record (with_pc_advanced size s) { ccpn = c; ie = true }) (does-bisr m e size c) (does-bisr v e2 size c) refl refl refl refl refl refl at view_at

  pub Alike-syscall : (tin size : ℕ) → fetched_instruction m ≡ Ok (Syscall tin, size) → fetched_instruction v ≡ Ok (Syscall tin, size) → Alike plan n u word_of chain_of Kept view m (step m e) (step v e2)
  Alike-syscall tin size at view_at =
      Alike-forth true (Syscall tin) size (λ s. record (at_handler_entry m s (wrapping_sum m.pc size) (bit_or m.btv (6 * 2 ^ 5))) { d = set s.d 15 tin }) (λ s. record (at_handler_entry v s (wrapping_sum v.pc size) (bit_or v.btv (6 * 2 ^ 5))) { d = set s.d 15 tin })
      (does-syscall m e size tin) (does-syscall v e2 size tin) refl refl refl refl refl refl at view_at

  pub Alike-misaligned : (shape : Shape) (size : ℕ) → is_trapping_instruction m e shape ≡ true → is_trapping_instruction v e2 shape ≡ true → fetched_instruction m ≡ Ok (shape, size) → fetched_instruction v ≡ Ok (shape, size) → Alike plan n u word_of chain_of Kept view m (step m e) (step v e2)
  Alike-misaligned shape size traps_m traps_v at view_at =
      Alike-forth true shape size (λ s. record (at_handler_entry m s m.pc (bit_or m.btv (2 * 2 ^ 5))) { d = set s.d 15 4 }) (λ s. record (at_handler_entry v s v.pc (bit_or v.btv (2 * 2 ^ 5))) { d = set s.d 15 4 })
      (does-trapped m e size shape traps_m) (does-trapped v e2 size shape traps_v) refl refl refl refl refl refl at view_at
