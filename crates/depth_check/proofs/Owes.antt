-- The duties of an instruction, and what it does if its contexts exist.
use Rattle.std.proofs.Common.{◌≡◌, ℕ, ◌*◌, ◌/◌, ◌^◌, Bool, true, false, cond, set, refl, ap, ◌∙◌, Contains}
use Rattle.std.specs.Prelude.{bit_or}
use Rattle.csa_chain.specs.ContextWords.{pie_of, pcpn_of}
use Rattle.elf_image.specs.Images.{ImageData}
use Rattle.tcd_plan.specs.PlanData.{PlanData}
use Rattle.tc_isa.specs.declared.shapes.Shape.{Shape}
use Rattle.tc_isa.specs.declared.shapes.Shape.TheVariants.{Load, Store, Call, Ret, Rfe, Svlcx, Rslcx, Bisr, Syscall}
use Rattle.tc_isa.specs.declared.shapes.Target.{Target}
use Rattle.tc_machine.specs.declared.events.Event.{Event}
use Rattle.tc_machine.specs.declared.events.End.TheVariants.{Running}
use Rattle.tc_machine.specs.declared.state.Machine.{Machine}
use Rattle.tc_machine.specs.Machine.{reg, a11, if_running, with_reg}
use Rattle.tc_machine.specs.Instructions.{wrapping_sum, with_pc_advanced, misaligned_access_trap, after_instruction, access_address, with_base_incremented, target_address, is_trapping_instruction}
use Rattle.tc_machine.specs.Handlers.{handler_psw, after_trap, after_interrupt}
use Rattle.tc_machine.specs.SavesAndRestores.{with_context_saved, save, with_context_restored, restore}
use Rattle.csa_chain.specs.MemoryBytes.{loaded_number, with_bytes, load_result}
use Rattle.tc_machine.proofs.Saves.{then_-running}
use Rattle.value_domain.specs.declared.states.State.{State}
use Rattle.value_domain.specs.Limits.{Limits}
use Rattle.vd_transfer.specs.EffectsOnStates.{state_after_lower_save, state_after_lower_restore, transfer_of}
use Rattle.depth_cert.specs.declared.keys.Key.{Key}
use Rattle.cfg_recover.specs.Entries.{sys_key, sys_entry}
use Rattle.depth_cert.specs.Exits.{exit_of_state}
use Rattle.cfg_recover.specs.Duties.{jump, enter, resume, leave, owed, duties_of}
use Rattle.cfg_recover.proofs.DutyView.{next as goes_next, system, system_back, returns, resumes, duty_listed}
use Rattle.depth_check.proofs.Enter.{begun}
use Rattle.depth_check.proofs.Handlers.{handler_a}

-- ---- duties
module _ (b : Limits) (image : ImageData) (plan : PlanData) (key : Key) (p : ℕ) (s : State) (n : ℕ) where
  pub owes-svlcx : Contains (duties_of b image plan key p s Svlcx n) (owed 4 (jump (wrapping_sum p n) (state_after_lower_save s)))
  unfolding transfer_of
  owes-svlcx = duty_listed b image plan key p s n Svlcx _ (goes_next Svlcx (λ t. refl))

  pub owes-bisr : (c : ℕ) → Contains (duties_of b image plan key p s (Bisr c) n) (owed 4 (jump (wrapping_sum p n) (record (state_after_lower_save s) { ie = true; ccpn = c })))
  unfolding transfer_of
  owes-bisr c = duty_listed b image plan key p s n (Bisr c) _ (goes_next (Bisr c) (λ t. refl))

  pub owes-rslcx : Contains (duties_of b image plan key p s Rslcx n) (owed 4 (jump (wrapping_sum p n) (state_after_lower_restore s)))
  unfolding transfer_of
  owes-rslcx = duty_listed b image plan key p s n Rslcx _ (goes_next Rslcx (λ t. refl))

  pub owes-syscall : (tin : ℕ) → Contains (duties_of b image plan key p s (Syscall tin) n) (owed 12 (enter (sys_key plan key) (sys_entry plan key s tin)))
  owes-syscall tin = duty_listed b image plan key p s n (Syscall tin) _ (system tin)

  pub owes-syscall_back : (tin : ℕ) → Contains (duties_of b image plan key p s (Syscall tin) n) (owed 4 (resume (sys_key plan key) (wrapping_sum p n)))
  owes-syscall_back tin = duty_listed b image plan key p s n (Syscall tin) _ (system_back tin)

  pub owes-ret : Contains (duties_of b image plan key p s Ret n) (owed 6 (leave (exit_of_state s)))
  owes-ret = duty_listed b image plan key p s n Ret _ returns

  pub owes-rfe : key.kind ≡ 3 → Contains (duties_of b image plan key p s Rfe n) (owed 7 (leave (exit_of_state s)))
  owes-rfe sys = duty_listed b image plan key p s n Rfe _ (resumes sys)

-- ---- what is done
-- after a successful save, and after a restore
pub saved_then : (m : Machine) (upper : Bool) (next : Machine → Machine) → save m upper ≡ with_context_saved m upper → m.end ≡ Running → if_running (save m upper) next ≡ next (record (with_context_saved m upper) { end = Running })
saved_then m upper next is running = ap (λ s. if_running s next) is ∙ then_-running (with_context_saved m upper) next running ∙ ap (λ x. next (record (with_context_saved m upper) { end = x })) running

pub restored_then : (m : Machine) (upper : Bool) (next : Machine → Machine) → restore m upper ≡ with_context_restored m upper → m.end ≡ Running → if_running (restore m upper) next ≡ next (record (with_context_restored m upper) { end = Running })
restored_then m true next is running = ap (λ s. if_running s next) is ∙ then_-running (with_context_restored m true) next running ∙ ap (λ x. next (record (with_context_restored m true) { end = x })) running
restored_then m false next is running = ap (λ s. if_running s next) is ∙ then_-running (with_context_restored m false) next running ∙ ap (λ x. next (record (with_context_restored m false) { end = x })) running

module _ (m : Machine) (running : m.end ≡ Running) where
  pub interrupt-is : save m true ≡ with_context_saved m true → (irq : ℕ) → after_interrupt m irq ≡ record (begun m m.d (handler_a m m.pc) (bit_or m.biv (irq * 2 ^ 5)) (handler_psw m.psw) false irq) { end = Running }
  interrupt-is is irq = saved_then m true _ is running

  pub trap-is : save m true ≡ with_context_saved m true → (class tin back : ℕ) → after_trap m class tin back ≡ record (begun m (set m.d 15 tin) (handler_a m back) (bit_or m.btv (class * 2 ^ 5)) (handler_psw m.psw) false m.ccpn) { end = Running }
  trap-is is class tin back = saved_then m true _ is running

  pub call-is : save m true ≡ with_context_saved m true → (e : Event) (to : Target) (n : ℕ) → after_instruction m e (Call to) n ≡ record (begun m m.d (set m.a 11 (wrapping_sum m.pc n)) (target_address m to) m.psw m.ie m.ccpn) { end = Running }
  unfolding after_instruction
  call-is is e to n = saved_then m true _ is running

  pub syscall-is : (e : Event) (tin n : ℕ) → after_instruction m e (Syscall tin) n ≡ after_trap m 6 tin (wrapping_sum m.pc n)
  unfolding after_instruction
  syscall-is e tin n = refl

  pub ret-is : restore m true ≡ with_context_restored m true → (e : Event) (n : ℕ) → after_instruction m e Ret n ≡ record (with_context_restored m true) { pc = a11 m / 2 * 2; ie = m.ie; ccpn = m.ccpn; end = Running }
  unfolding after_instruction
  ret-is is e n = restored_then m true _ is running

  pub rfe-is : restore m true ≡ with_context_restored m true → (e : Event) (n : ℕ) → after_instruction m e Rfe n ≡ record (with_context_restored m true) { pc = a11 m / 2 * 2; ie = pie_of m.core m.pcxi; ccpn = pcpn_of m.core m.pcxi; end = Running }
  unfolding after_instruction
  rfe-is is e n = restored_then m true _ is running

  pub svlcx-is : save m false ≡ with_context_saved m false → (e : Event) (n : ℕ) → after_instruction m e Svlcx n ≡ record (with_context_saved m false) { pc = wrapping_sum m.pc n; ie = m.ie; ccpn = m.ccpn; end = Running }
  unfolding after_instruction
  svlcx-is is e n = saved_then m false _ is running

  pub bisr-is : save m false ≡ with_context_saved m false → (e : Event) (c n : ℕ) → after_instruction m e (Bisr c) n ≡ record (with_context_saved m false) { pc = wrapping_sum m.pc n; ie = true; ccpn = c; end = Running }
  unfolding after_instruction
  bisr-is is e c n = saved_then m false _ is running

  pub rslcx-is : restore m false ≡ with_context_restored m false → (e : Event) (n : ℕ) → after_instruction m e Rslcx n ≡ record (with_context_restored m false) { pc = wrapping_sum m.pc n; end = Running }
  unfolding after_instruction
  rslcx-is is e n = restored_then m false _ is running

-- an access that traps
pub traps-is : (m : Machine) (e : Event) (shape : Shape) (n : ℕ) → is_trapping_instruction m e shape ≡ true → after_instruction m e shape n ≡ misaligned_access_trap m
unfolding after_instruction
traps-is m e (Load dst base offset size signed after) n h =
    ap (λ t. cond t (misaligned_access_trap m) (with_pc_advanced n (with_reg (with_base_incremented m base offset after) dst (load_result signed size (loaded_number m.mem e.input (access_address m base offset after) size))))) h
traps-is m e (Store src base offset size after) n h =
    ap (λ t. cond t (misaligned_access_trap m) (with_pc_advanced n (record (with_base_incremented m base offset after) { mem = with_bytes m.mem (access_address m base offset after) (reg m src) size }))) h
traps-is m e _ n h = absurd (let f : false ≡ true = h in cc)
