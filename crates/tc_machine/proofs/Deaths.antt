-- A machine that dies of another cause than Fcd changes only its end.
use Rattle.std.proofs.Common.{◌≡◌, ◌≢◌, ℕ, ◌-◌, Bool, true, false, set, Result, Ok, Err, refl, sym, ap, ◌∙◌, ◌==◌, nat_lt}
use Rattle.std.proofs.lemmas.Bool.{cond_both}
use Rattle.csa_chain.specs.Chain.{link_in, is_area_mapped}
use Rattle.tc_isa.specs.declared.shapes.Arg.{Arg}
use Rattle.tc_isa.specs.declared.shapes.Arg.TheVariants.{Reg, Word}
use Rattle.tc_isa.specs.declared.shapes.Shape.{Shape}
use Rattle.tc_isa.specs.declared.shapes.Shape.TheVariants.{Compute, Scaled, Load, Store, Branch, Call, Ret, Rfe, Svlcx, Rslcx, Bisr, Syscall, Mfcr, Mtcr}
use Rattle.tc_machine.specs.declared.events.Cause.{Cause}
use Rattle.tc_machine.specs.declared.events.Cause.TheVariants.{Fcd, Fcu, Csu, Ctyp, NoArea}
use Rattle.tc_machine.specs.declared.events.Event.{Event}
use Rattle.tc_machine.specs.declared.events.End.{End}
use Rattle.tc_machine.specs.declared.events.End.TheVariants.{Running, Dead}
use Rattle.tc_machine.specs.declared.state.Machine.{Machine}
use Rattle.tc_machine.specs.Machine.{with_reg, dead_machine, if_end_running, if_running, psw_with_status, with_core_register}
use Rattle.tc_machine.specs.Instructions.{access_address, with_base_incremented, is_trapping_access, with_register_decremented, after_instruction}
use Rattle.tc_machine.specs.Handlers.{after_trap}
use Rattle.tc_machine.specs.SavesAndRestores.{with_context_saved, save, is_last_context_of_kind, with_context_restored, restore}
use Rattle.tc_machine.specs.Fetching.{fetched_instruction}
use Rattle.tc_machine.specs.Stepping.{is_interrupt_taken, after_fetch_result, machine_after_event, step}
use Rattle.tc_machine.specs.MachineLaws.{DeathChangesEndOnly}

-- n is m after an event: if it died, and not of Fcd, only the end changed
abbrev OnlyEnd : Machine → Machine → Type 0
OnlyEnd m n = (cause : Cause) → n.end ≡ Dead cause → cause ≢ Fcd → n ≡ record m { end = Dead cause }

-- a machine that runs isn't dead
only_running : (m n : Machine) → n.end ≡ Running → OnlyEnd m n
only_running m n runs cause dead other = absurd (let clash : Running ≡ Dead cause = sym runs ∙ dead in cc)

only_died : (m : Machine) (cause : Cause) → OnlyEnd m (dead_machine cause m)
only_died m cause other dead isnt = ap (λ (end : End). record m { end = end }) dead

of_fcd : (m n : Machine) → OnlyEnd m (dead_machine Fcd n)
of_fcd m n cause dead other = absurd (other (let same : Dead cause ≡ Dead Fcd = sym dead in cc))

-- if the rest keeps a running machine running, so does the whole
only_goes_on : (m s : Machine) (end : End) (next : Machine → Machine) → s.end ≡ end → ((n : Machine) → (next n).end ≡ n.end) → OnlyEnd m s → OnlyEnd m (if_end_running end s next)
only_goes_on m s Running next e keeps only = only_running m (next s) (keeps s ∙ e)
only_goes_on m s (Dead cause) next e keeps only = only

only_then : (m s : Machine) (next : Machine → Machine) → ((n : Machine) → (next n).end ≡ n.end) → OnlyEnd m s → OnlyEnd m (if_running s next)
only_then m s next keeps only = only_goes_on m s s.end next refl keeps only

-- ---- saves and restores
end_restored : (m : Machine) (upper : Bool) → (with_context_restored m upper).end ≡ m.end
end_restored m true = refl
end_restored m false = refl

module _ (m : Machine) (runs : m.end ≡ Running) where
  only_save : (upper : Bool) → OnlyEnd m (save m upper)
  unfolding save
  only_save upper =
      cond_both (link_in m.fcx == 0) _ _ (OnlyEnd m) (λ _. only_died m Fcu) (λ _.
      cond_both (is_area_mapped m.mem (link_in m.fcx)) _ _ (OnlyEnd m)
      (λ _. cond_both (link_in m.fcx == link_in m.lcx) _ _ (OnlyEnd m) (λ _. of_fcd m (with_context_saved m upper)) (λ _. only_running m (with_context_saved m upper) runs))
      (λ _. only_died m NoArea))

  only_restore : (upper : Bool) → OnlyEnd m (restore m upper)
  unfolding restore
  only_restore upper =
      cond_both (link_in m.pcxi == 0) _ _ (OnlyEnd m) (λ _. only_died m Csu) (λ _.
      cond_both (is_last_context_of_kind m upper) _ _ (OnlyEnd m)
      (λ _. cond_both (is_area_mapped m.mem (link_in m.pcxi)) _ _ (OnlyEnd m) (λ _. only_running m (with_context_restored m upper) (end_restored m upper ∙ runs)) (λ _. only_died m NoArea))
      (λ _. only_died m Ctyp))

-- ---- small changes
end_reg : (m : Machine) (r w : ℕ) → (with_reg m r w).end ≡ m.end
end_reg m r w = cond_both (nat_lt r 16) (record m { d = set m.d r w }) (record m { a = set m.a (r - 16) w }) (λ n. n.end ≡ m.end) (λ _. refl) (λ _. refl)

end_base : (m : Machine) (base : Arg) (offset : ℕ) (after : Bool) → (with_base_incremented m base offset after).end ≡ m.end
end_base m (Reg r) offset true = end_reg m r _
end_base m (Reg r) offset false = refl
end_base m (Word w) offset after = refl

end_lowered : (m : Machine) (x : ℕ) (lowers : Bool) → (with_register_decremented m x lowers).end ≡ m.end
end_lowered m x true = end_reg m x _
end_lowered m x false = refl

end_core_register : (m : Machine) (number w : ℕ) → (with_core_register m number w).end ≡ m.end
end_core_register m number w =
    let P : Machine → Type 0 = λ n. n.end ≡ m.end in
    cond_both (number == 0xfe00) _ _ P (λ _. refl) (λ _.
    cond_both (number == 0xfe04) _ _ P (λ _. refl) (λ _.
    cond_both (number == 0xfe20) _ _ P (λ _. refl) (λ _.
    cond_both (number == 0xfe24) _ _ P (λ _. refl) (λ _.
    cond_both (number == 0xfe28) _ _ P (λ _. refl) (λ _.
    cond_both (number == 0xfe2c) _ _ P (λ _. refl) (λ _.
    cond_both (number == 0xfe38) _ _ P (λ _. refl) (λ _.
    cond_both (number == 0xfe3c) _ _ P (λ _. refl) (λ _. refl))))))))

-- ---- what an event does
module _ (m : Machine) (runs : m.end ≡ Running) where
  only_trap : (class tin back : ℕ) → OnlyEnd m (after_trap m class tin back)
  only_trap class tin back = only_then m (save m true) _ (λ n. refl) (only_save m runs true)

  only_does : (e : Event) (s : Shape) (n : ℕ) → OnlyEnd m (after_instruction m e s n)
  unfolding after_instruction
  only_does e (Compute op dst x y) n = only_running m _ (end_reg m dst _ ∙ runs)
  only_does e (Scaled dst base index k) n = only_running m _ (end_reg m dst _ ∙ runs)
  only_does e (Load dst base offset size signed after) n =
      cond_both (is_trapping_access e (access_address m base offset after) size) _ _ (OnlyEnd m) (λ _. only_trap 2 4 m.pc)
      (λ _. only_running m _ (end_reg (with_base_incremented m base offset after) dst _ ∙ end_base m base offset after ∙ runs))
  only_does e (Store src base offset size after) n =
      cond_both (is_trapping_access e (access_address m base offset after) size) _ _ (OnlyEnd m) (λ _. only_trap 2 4 m.pc)
      (λ _. only_running m _ (end_base m base offset after ∙ runs))
  only_does e (Branch c x y by lowers) n = only_running m _ (end_lowered m x lowers ∙ runs)
  only_does e (Call to) n = only_then m (save m true) _ (λ s. refl) (only_save m runs true)
  only_does e Ret n = only_then m (restore m true) _ (λ s. refl) (only_restore m runs true)
  only_does e Rfe n = only_then m (restore m true) _ (λ s. refl) (only_restore m runs true)
  only_does e Svlcx n = only_then m (save m false) _ (λ s. refl) (only_save m runs false)
  only_does e Rslcx n = only_then m (restore m false) _ (λ s. refl) (only_restore m runs false)
  only_does e (Bisr c) n = only_then m (save m false) _ (λ s. refl) (only_save m runs false)
  only_does e (Syscall tin) n = only_trap 6 tin _
  only_does e (Mfcr dst number) n = only_running m _ (end_reg m dst _ ∙ runs)
  only_does e (Mtcr src number) n = only_running m _ (end_core_register m number _ ∙ runs)
  only_does e _ n = only_running m _ runs

  only_executed : (e : Event) (found : Result (Shape × ℕ) Cause) → OnlyEnd m (after_fetch_result m e found)
  only_executed e (Ok found) = only_does e found.0 found.1
  only_executed e (Err cause) = only_died m cause

  only_done : (e : Event) → OnlyEnd m (machine_after_event m e)
  only_done e =
      cond_both (is_interrupt_taken m e) _ _ (OnlyEnd m) (λ _. only_then m (save m true) _ (λ s. refl) (only_save m runs true)) (λ _. only_executed e (fetched_instruction m))

-- a dead machine doesn't change
stays_dead : (m : Machine) (next : Machine → Machine) (end : End) → m.end ≡ end → (m.end ≡ Running → OnlyEnd m (next m)) → OnlyEnd m (if_end_running end m next)
stays_dead m next Running e only = only e
stays_dead m next (Dead d) e only = only_itself
  where
    only_itself : OnlyEnd m m
    only_itself cause dead other = ap (λ (end : End). record m { end = end }) dead

pub death_changes : DeathChangesEndOnly
unfolding step
death_changes m e cause dead other =
    stays_dead m _ m.end refl (λ runs. only_then m (machine_after_event m e) (λ n. record n { psw = psw_with_status n.psw e.status }) (λ n. refl) (only_done m runs e)) cause dead other
