-- A step that isn't MTCR doesn't change LCX, BIV, BTV, ISP or the layout of PCXI.
use Rattle.std.proofs.Common.{◌≡◌, ℕ, ◌*◌, ◌/◌, ◌^◌, Bool, true, false, cond, inl, inr, Ok, set, refl, sym, subst, bit_or, ◌==◌}
use Rattle.std.proofs.lemmas.Bool.{cond_both, cases_Bool}
use Rattle.csa_chain.specs.Chain.{link_in, is_area_mapped}
use Rattle.csa_chain.specs.ContextWords.{pie_of, pcpn_of}
use Rattle.csa_chain.specs.MemoryBytes.{Memory}
use Rattle.tc_isa.specs.declared.shapes.Shape.{Shape}
use Rattle.tc_isa.specs.declared.shapes.Shape.TheVariants.{Compute, Scaled, Load, Store, Branch, Jump, Call, Ret, Rfe, Svlcx, Rslcx, Bisr, Enable, Disable, Syscall, Mfcr, Mtcr, Nothing}
use Rattle.tc_machine.specs.declared.events.Cause.TheVariants.{Fcd, Fcu, Csu, Ctyp, NoArea}
use Rattle.tc_machine.specs.declared.events.End.{End}
use Rattle.tc_machine.specs.declared.events.End.TheVariants.{Running, Dead}
use Rattle.tc_machine.specs.declared.events.Event.{Event}
use Rattle.tc_machine.specs.declared.state.Machine.{Machine}
use Rattle.tc_machine.specs.Machine.{a11, dead_machine, if_end_running, if_running, psw_with_status}
use Rattle.tc_machine.specs.Instructions.{wrapping_sum, with_pc_advanced, access_address, is_trapping_access, target_address, after_instruction}
use Rattle.tc_machine.specs.Handlers.{at_handler_entry, after_trap, after_interrupt}
use Rattle.tc_machine.specs.Stepping.{is_interrupt_taken, after_fetch_result, machine_after_event, step}
use Rattle.tc_machine.specs.SavesAndRestores.{is_last_context_of_kind, with_context_saved, save, with_context_restored, restore}
use Rattle.tc_machine.specs.Fetching.{fetched_instruction}
use Rattle.tc_machine.proofs.Steps.{done-is, does-call, does-ret}
use Rattle.vd_transfer.specs.Registers.{WritesNoFixedRegister}
use Rattle.cfg_recover.proofs.Points.{does-rfe, does-svlcx, does-rslcx, does-bisr, does-syscall, does-trapped}
use Rattle.task_chains.proofs.Leveling.{StoresNothing}
use Rattle.task_chains.proofs.Plain.{Plainly, plain-compute, plain-scaled, plain-mfcr, plain-enable, plain-disable, plain-nothing, plain-jump, plain-branch, plain-load, plain-store}

pub record SameCore (m n : Machine) : Type 0 where
  pub lcx : n.lcx ≡ m.lcx
  pub biv : n.biv ≡ m.biv
  pub btv : n.btv ≡ m.btv
  pub isp : n.isp ≡ m.isp
  pub core : n.core ≡ m.core

core_then : (m s : Machine) (next : Machine → Machine) → SameCore m s → ((r : Machine) → SameCore m r → SameCore m (next r)) → SameCore m (if_running s next)
core_then m s next here on = by_end s.end
  where
    by_end : (end : End) → SameCore m (if_end_running end s next)
    by_end Running = on s here
    by_end (Dead cause) = here

itself : (m : Machine) → SameCore m m
itself m = record { lcx = refl; biv = refl; btv = refl; isp = refl; core = refl }

core_saved : (m : Machine) (upper : Bool) → SameCore m (with_context_saved m upper)
core_saved m upper = record { lcx = refl; biv = refl; btv = refl; isp = refl; core = refl }

core_save : (m : Machine) (upper : Bool) → SameCore m (save m upper)
unfolding save
core_save m upper =
    cond_both (link_in m.fcx == 0) (dead_machine Fcu m) (cond (is_area_mapped m.mem (link_in m.fcx)) (cond (link_in m.fcx == link_in m.lcx) (dead_machine Fcd (with_context_saved m upper)) (with_context_saved m upper)) (dead_machine NoArea m)) (SameCore m)
    (λ _. record { lcx = refl; biv = refl; btv = refl; isp = refl; core = refl })
    (λ _.
    cond_both (is_area_mapped m.mem (link_in m.fcx)) (cond (link_in m.fcx == link_in m.lcx) (dead_machine Fcd (with_context_saved m upper)) (with_context_saved m upper)) (dead_machine NoArea m) (SameCore m)
    (λ _. cond_both (link_in m.fcx == link_in m.lcx) (dead_machine Fcd (with_context_saved m upper)) (with_context_saved m upper) (SameCore m) (λ _. record { lcx = refl; biv = refl; btv = refl; isp = refl; core = refl }) (λ _. core_saved m upper))
    (λ _. record { lcx = refl; biv = refl; btv = refl; isp = refl; core = refl }))

-- a save doesn't change them
pub save_place : (m : Machine) (upper : Bool) → ((save m upper).pc ≡ m.pc) × ((save m upper).ie ≡ m.ie)
unfolding save
save_place m upper =
    cond_both (link_in m.fcx == 0) (dead_machine Fcu m) (cond (is_area_mapped m.mem (link_in m.fcx)) (cond (link_in m.fcx == link_in m.lcx) (dead_machine Fcd (with_context_saved m upper)) (with_context_saved m upper)) (dead_machine NoArea m)) (λ (n : Machine). (n.pc ≡ m.pc) × (n.ie ≡ m.ie))
    (λ _. (refl, refl))
    (λ _.
    cond_both (is_area_mapped m.mem (link_in m.fcx)) (cond (link_in m.fcx == link_in m.lcx) (dead_machine Fcd (with_context_saved m upper)) (with_context_saved m upper)) (dead_machine NoArea m) (λ (n : Machine). (n.pc ≡ m.pc) × (n.ie ≡ m.ie))
    (λ _. cond_both (link_in m.fcx == link_in m.lcx) (dead_machine Fcd (with_context_saved m upper)) (with_context_saved m upper) (λ (n : Machine). (n.pc ≡ m.pc) × (n.ie ≡ m.ie)) (λ _. (refl, refl)) (λ _. (refl, refl)))
    (λ _. (refl, refl)))

core_restored : (m : Machine) (upper : Bool) → SameCore m (with_context_restored m upper)
core_restored m true = record { lcx = refl; biv = refl; btv = refl; isp = refl; core = refl }
core_restored m false = record { lcx = refl; biv = refl; btv = refl; isp = refl; core = refl }

core_restore : (m : Machine) (upper : Bool) → SameCore m (restore m upper)
unfolding restore
core_restore m upper =
    cond_both (link_in m.pcxi == 0) (dead_machine Csu m) (cond (is_last_context_of_kind m upper) (cond (is_area_mapped m.mem (link_in m.pcxi)) (with_context_restored m upper) (dead_machine NoArea m)) (dead_machine Ctyp m)) (SameCore m)
    (λ _. record { lcx = refl; biv = refl; btv = refl; isp = refl; core = refl })
    (λ _.
    cond_both (is_last_context_of_kind m upper) (cond (is_area_mapped m.mem (link_in m.pcxi)) (with_context_restored m upper) (dead_machine NoArea m)) (dead_machine Ctyp m) (SameCore m)
    (λ _. cond_both (is_area_mapped m.mem (link_in m.pcxi)) (with_context_restored m upper) (dead_machine NoArea m) (SameCore m) (λ _. core_restored m upper) (λ _. record { lcx = refl; biv = refl; btv = refl; isp = refl; core = refl }))
    (λ _. record { lcx = refl; biv = refl; btv = refl; isp = refl; core = refl }))

core_interrupt : (m : Machine) (irq : ℕ) → SameCore m (after_interrupt m irq)
core_interrupt m irq =
    core_then m (save m true) (λ s. record (at_handler_entry m s m.pc (bit_or m.biv (irq * 2 ^ 5))) { ccpn = irq }) (core_save m true)
    (λ r h. record { lcx = h.lcx; biv = h.biv; btv = h.btv; isp = h.isp; core = h.core })

core_trap : (m : Machine) (class tin back : ℕ) → SameCore m (after_trap m class tin back)
core_trap m class tin back =
    core_then m (save m true) (λ s. record (at_handler_entry m s back (bit_or m.btv (class * 2 ^ 5))) { d = set s.d 15 tin }) (core_save m true)
    (λ r h. record { lcx = h.lcx; biv = h.biv; btv = h.btv; isp = h.isp; core = h.core })

module _ (m : Machine) (e : Event) (size : ℕ) where
  plainly : (shape : Shape) {n2 : Machine} {mem view : Memory} → Plainly m m (after_instruction m e shape size) n2 mem view → SameCore m (after_instruction m e shape size)
  plainly shape {mem = mem} p = subst (SameCore m) (sym p.is) (record { lcx = refl; biv = refl; btv = refl; isp = refl; core = refl })

  through : (shape : Shape) (n : Machine) → after_instruction m e shape size ≡ n → SameCore m n → SameCore m (after_instruction m e shape size)
  through shape n is h = subst (SameCore m) (sym is) h

  pub core_does : (shape : Shape) → WritesNoFixedRegister shape → StoresNothing m e shape → SameCore m (after_instruction m e shape size)
  core_does (Compute op dst x y) w n = plainly (Compute op dst x y) (plain-compute m m.mem m.pcxi m.fcx e e op dst x y size)
  core_does (Scaled dst base index j) w n = plainly (Scaled dst base index j) (plain-scaled m m.mem m.pcxi m.fcx e e dst base index j size)
  core_does (Load dst base offset width signed after) w n =
      elim (cases_Bool (is_trapping_access e (access_address m base offset after) width)) [
        | inl yes_trap ↦ through (Load dst base offset width signed after) (after_trap m 2 4 m.pc) (does-trapped m e size (Load dst base offset width signed after) yes_trap) (core_trap m 2 4 m.pc)
        | inr no_trap ↦ plainly (Load dst base offset width signed after) (plain-load m m.mem m.pcxi m.fcx e e dst base offset width signed after size no_trap refl refl)
      ]
  core_does (Store src base offset width after) w n =
      elim (cases_Bool (is_trapping_access e (access_address m base offset after) width)) [
        | inl yes_trap ↦ through (Store src base offset width after) (after_trap m 2 4 m.pc) (does-trapped m e size (Store src base offset width after) yes_trap) (core_trap m 2 4 m.pc)
        | inr no_trap ↦ plainly (Store src base offset width after) (plain-store m m.mem m.pcxi m.fcx e e src base offset width after size no_trap refl (n no_trap))
      ]
  core_does (Branch test x y by lowers) w n = plainly (Branch test x y by lowers) (plain-branch m m.mem m.pcxi m.fcx e e test x y by lowers size)
  core_does (Jump target) w n = plainly (Jump target) (plain-jump m m.mem m.pcxi m.fcx e e target size)
  core_does (Call target) w n = through (Call target) _ (does-call m e target size) (core_then m (save m true) (λ s. record s { a = set s.a 11 (wrapping_sum m.pc size); pc = target_address m target }) (core_save m true) (λ r h. record { lcx = h.lcx; biv = h.biv; btv = h.btv; isp = h.isp; core = h.core }))
  core_does Ret w n = through Ret _ (does-ret m e size) (core_then m (restore m true) (λ r. record r { pc = a11 m / 2 * 2 }) (core_restore m true) (λ r h. record { lcx = h.lcx; biv = h.biv; btv = h.btv; isp = h.isp; core = h.core }))
  core_does Rfe w n =
      through Rfe _ (does-rfe m e size)
      (core_then m (restore m true) (λ r. record r { pc = a11 m / 2 * 2; ie = pie_of m.core m.pcxi; ccpn = pcpn_of m.core m.pcxi }) (core_restore m true) (λ r h. record { lcx = h.lcx; biv = h.biv; btv = h.btv; isp = h.isp; core = h.core }))
  core_does Svlcx w n = through Svlcx _ (does-svlcx m e size) (core_then m (save m false) (with_pc_advanced size) (core_save m false) (λ r h. record { lcx = h.lcx; biv = h.biv; btv = h.btv; isp = h.isp; core = h.core }))
  core_does Rslcx w n = through Rslcx _ (does-rslcx m e size) (core_then m (restore m false) (with_pc_advanced size) (core_restore m false) (λ r h. record { lcx = h.lcx; biv = h.biv; btv = h.btv; isp = h.isp; core = h.core }))
  core_does (Bisr c) w n = through (Bisr c) _ (does-bisr m e size c) (core_then m (save m false) (λ s. record (with_pc_advanced size s) { ccpn = c; ie = true }) (core_save m false) (λ r h. record { lcx = h.lcx; biv = h.biv; btv = h.btv; isp = h.isp; core = h.core }))
  core_does Enable w n = plainly Enable (plain-enable m m.mem m.pcxi m.fcx e e size)
  core_does Disable w n = plainly Disable (plain-disable m m.mem m.pcxi m.fcx e e size)
  core_does (Syscall tin) w n = through (Syscall tin) (after_trap m 6 tin (wrapping_sum m.pc size)) (does-syscall m e size tin) (core_trap m 6 tin (wrapping_sum m.pc size))
  core_does (Mfcr dst number) w n = plainly (Mfcr dst number) (plain-mfcr m m.mem m.pcxi m.fcx e e dst number size refl)
  core_does (Mtcr src number) w n = absurd w
  core_does Nothing w n = plainly Nothing (plain-nothing m m.mem m.pcxi m.fcx e e size)

-- ---- steps
core_of_done : (m : Machine) (e : Event) → SameCore m (machine_after_event m e) → SameCore m (step m e)
unfolding step
core_of_done m e h = by_end m.end
  where
    by_end : (end : End) → SameCore m (if_end_running end m (λ m. if_running (machine_after_event m e) (λ n. record n { psw = psw_with_status n.psw e.status })))
    by_end Running = core_then m (machine_after_event m e) (λ n. record n { psw = psw_with_status n.psw e.status }) h (λ r k. record { lcx = k.lcx; biv = k.biv; btv = k.btv; isp = k.isp; core = k.core })
    by_end (Dead cause) = itself m

pub core_taken : (m : Machine) (e : Event) → is_interrupt_taken m e ≡ true → SameCore m (step m e)
core_taken m e taken = core_of_done m e (subst (λ t. SameCore m (cond t (after_interrupt m e.irq) (after_fetch_result m e (fetched_instruction m)))) (sym taken) (core_interrupt m e.irq))

pub core_step : (m : Machine) (e : Event) (shape : Shape) (size : ℕ) → is_interrupt_taken m e ≡ false → fetched_instruction m ≡ Ok (shape, size) → WritesNoFixedRegister shape → StoresNothing m e shape → SameCore m (step m e)
core_step m e shape size none at writes nothing = core_of_done m e (subst (SameCore m) (sym (done-is m e shape size none at)) (core_does m e size shape writes nothing))
