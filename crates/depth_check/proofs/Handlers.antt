-- The frames that interrupts and traps begin.
use Rattle.std.proofs.Common.{◌≡◌, ◌≢◌, ℕ, ◌+◌, ◌*◌, ◌^◌, ◌<◌, ◌≤◌, ◌⊎◌, inl, inr, Bool, true, false, List, [], length, get_or, set, Some, refl, sym, ap, ◌∙◌, arith, length-set}
use Rattle.std.proofs.lemmas.Bool.{cond_both, eq-eqb}
use Rattle.std.proofs.lemmas.List.{get_or-set_same, get_or-set_other}
use Rattle.std.specs.Prelude.{Option, None, IfSome, bit_or, replicate}
use Rattle.csa_chain.proofs.ContextLaws.{reg_of}
use Rattle.elf_image.specs.Images.{ImageData}
use Rattle.tcd_plan.specs.PlanData.{PlanData}
use Rattle.tc_machine.specs.declared.state.Machine.{Machine}
use Rattle.tc_machine.specs.Machine.{reg, a10, is_interrupt_stack_used, AreRegisters, IsMachine}
use Rattle.tc_machine.specs.Handlers.{handler_psw, handler_stack_pointer}
use Rattle.tc_machine.proofs.Words.{register_lt, AreRegisters-set}
use Rattle.value_domain.specs.declared.states.State.{State}
use Rattle.value_domain.specs.declared.values.Val.{Val}
use Rattle.value_domain.specs.Values.{IsMember, any_val, word_val}
use Rattle.vd_transfer.specs.Registers.{register_slot, with_slot_value}
use Rattle.depth_cert.specs.Nodes.{NodeData}
use Rattle.depth_cert.specs.Certs.{CertData, IsCert}
use Rattle.cfg_recover.specs.Entries.{irq_key, sys_key, aln_key, irq_entry, sys_entry, aln_entry, handler_entry_sp_of, state_with_only_a10, handler_key}
use Rattle.depth_cert.specs.Exits.{state_after_return}
use Rattle.cfg_recover.specs.RulesHoldOrFail.{Accepts}
use Rattle.cfg_recover.proofs.EntryLaws.{holds_covered, holds_irq, holds_aln, holds_sys, entry_length, aln_length, sys_length, stack_member, holds_after_system}
use Rattle.depth_check.proofs.Frames.{Frame, LowerSame, UpperSame, Leaves, by_return, from_system, from_handler, Resumed, Invariant}
use Rattle.depth_check.proofs.Registers.{reg_of_lt, set_a11, set_a10, set_d15}
use Rattle.depth_check.proofs.Enter.{Begins}
use Rattle.cfg_recover.proofs.PointLaws.{Found}
use Rattle.depth_check.proofs.Entries.{lower_not, if_some, PointFor, after, again, upper_in}
use Rattle.value_domain.proofs.RegLaws.{implied_length}

handler_is : (psw : ℕ) → is_interrupt_stack_used (handler_psw psw) ≡ true
handler_is psw = eq-eqb _ _ (omega arith)

-- the states at entries have no lower contexts
set_none : (s : State) (v : Val) (o : Option ℕ) → length (with_slot_value s v o).locals.items ≡ length s.locals.items
set_none s v (Some i) = refl
set_none s v None = refl

pub entry_none : (sp : Val) (ie : Bool) (ccpn : ℕ) (lower : Bool) → length (state_with_only_a10 sp ie ccpn lower).locals.items ≡ 0
entry_none sp ie ccpn lower = set_none (record { regs = replicate 27 any_val; ie = ie; ccpn = ccpn; lower = lower; locals = record { items = [] } }) sp (register_slot 26)

-- A0 to A15 at the entry of a handler
abbrev pub handler_a : Machine → ℕ → List ℕ
handler_a m back = set (set m.a 11 back) 10 (handler_stack_pointer m)

module _ (image : ImageData) (plan : PlanData) (cert : CertData) (most : ℕ) (is_cert : IsCert cert) (accepted : Accepts image plan cert) where
  module _ (m : Machine) (words : IsMachine m) (frame : Frame) (below : List Frame) (k : Invariant image plan cert most m frame below) (regs : length ((k.point).state).regs ≡ 27) where
    module _ (d : List ℕ) (ds : AreRegisters d) (d_same : (a : List ℕ) (r : ℕ) → r ≢ 15 → reg_of d a r ≡ reg_of m.d a r) (back : ℕ) (small : back < 2 ^ 32) where
      handler_back : get_or (handler_a m back) 11 0 ≡ back
      handler_back =
          let long = (words.a).count in
          get_or-set_other (set m.a 11 back) 10 11 (handler_stack_pointer m) 0 (omega arith) ∙ get_or-set_same m.a 11 back 0 (omega arith)

      handler_sp : reg_of d (handler_a m back) 26 ≡ handler_stack_pointer m
      handler_sp = let long = (words.a).count in get_or-set_same (set m.a 11 back) 10 (handler_stack_pointer m) 0 (omega (arith, length-set {A = ℕ}))

      handler_same : (r : ℕ) → r ≢ 15 → r ≢ 26 → r ≢ 27 → reg_of d (handler_a m back) r ≡ reg m r
      handler_same r n15 n26 n27 = d_same (handler_a m back) r n15 ∙ set_a10 m.d (set m.a 11 back) (handler_stack_pointer m) r n26 ∙ set_a11 m.d m.a back r n27

      handler_small : (r : ℕ) → reg_of d (handler_a m back) r < 2 ^ 32
      handler_small r =
          reg_of_lt d (handler_a m back) ds
          (AreRegisters-set (set m.a 11 back) 10 (handler_stack_pointer m) (cond_both (is_interrupt_stack_used m.psw) (a10 m) m.isp (λ w. w < 2 ^ 32) (λ _. register_lt m.a words.a 10) (λ _. words.isp)) (AreRegisters-set m.a 11 back small words.a)) r

      handler_lower : LowerSame (reg m) (reg_of d (handler_a m back))
      handler_lower r low = handler_same r (lower_not r 15 refl low) (lower_not r 26 refl low) (lower_not r 27 refl low)

      handler_member : IsMember (reg_of d (handler_a m back) 26) (handler_entry_sp_of plan (frame.node).key (k.point).state)
      handler_member = rw handler_sp (stack_member plan (frame.node).key m (k.point).state m.ie m.ccpn k.is k.isp k.inside)

      handler_address : (r : ℕ) → 16 ≤ r → r < 26 → reg_of d (handler_a m back) r ≡ reg m r
      handler_address r low high = handler_same r (λ e. omega arith) (λ e. omega arith) (λ e. omega arith)

    -- a handler that leaves the lower registers goes back to the point
    goes_back : (node : NodeData) → ((node.key).kind ≡ 2) ⊎ ((node.key).kind ≡ 4) → (word : ℕ → ℕ) (ie : Bool) (ccpn : ℕ) → UpperSame (reg m) word → word 27 < 2 ^ 32 → Leaves m.ie m.ccpn node (reg m) word ie ccpn → Resumed plan frame m.pc word ie ccpn
    goes_back node kind word ie ccpn upper a11_small (from_handler which lower enabled priority) =
        again image plan cert most is_cert accepted m words frame below k regs word ie ccpn upper a11_small lower enabled priority
    goes_back node kind word ie ccpn upper a11_small (by_return x is one h) = elim kind [ inl two ↦ absurd (omega arith) | inr four ↦ absurd (omega arith) ]
    goes_back node kind word ie ccpn upper a11_small (from_system x ie2 ccpn2 is three h enabled priority) = elim kind [ inl two ↦ absurd (omega arith) | inr four ↦ absurd (omega arith) ]

    -- ---- an interrupt
    module _ (irq : ℕ) (node : NodeData) (found : Found image plan cert is_cert accepted (irq_key plan irq) node)
        (at : PointFor node (bit_or plan.biv (irq * 2 ^ 5)) (irq_entry plan (frame.node).key (k.point).state irq)) (room : length ((k.point).state).locals.items + 1 + node.need ≤ (frame.node).need) where
      pub irq_begins : Begins plan cert m frame (k.point).state m.d (handler_a m m.pc) (bit_or m.biv (irq * 2 ^ 5)) (handler_psw m.psw) false irq m.pc (handler_key 2 (bit_or m.biv (irq * 2 ^ 5)) irq)
      irq_begins =
          let same : (a : List ℕ) (r : ℕ) → r ≢ 15 → reg_of m.d a r ≡ reg_of m.d a r = λ a r ne. refl in
          record {
            node = node;
            stands = found.stands;
            key_is = found.key ∙ ap (λ v. handler_key 2 (bit_or v (irq * 2 ^ 5)) irq) (sym k.biv);
            a11_is = handler_back m.d words.d same m.pc words.pc;
            need = room;
            point = at.point;
            found = rw k.biv at.found;
            inside =
                holds_covered plan (at.point).state (irq_entry plan (frame.node).key (k.point).state irq) (reg_of m.d (handler_a m m.pc)) false irq at.covers (entry_length (handler_entry_sp_of plan (frame.node).key (k.point).state) false irq true)
                (holds_irq plan (frame.node).key (k.point).state (reg m) (reg_of m.d (handler_a m m.pc)) m.ie m.ccpn k.inside (handler_member m.d words.d same m.pc words.pc) irq (λ r lt. handler_small m.d words.d same m.pc words.pc r)
                (handler_address m.d words.d same m.pc words.pc));
            none = implied_length ((at.point).state).locals.items ((irq_entry plan (frame.node).key (k.point).state irq).locals.items) (at.covers).locals ∙ entry_none (handler_entry_sp_of plan (frame.node).key (k.point).state) false irq true;
            is = handler_is m.psw ∙ sym (ap (λ k. k.is) found.key);
            lower = handler_lower m.d words.d same m.pc words.pc;
            goes_on = goes_back node (inl (ap (λ k. k.kind) found.key));
          }

    -- ---- traps: the class's number is in D15
    module _ (tin : ℕ) (tin_small : tin < 2 ^ 32) (back : ℕ) (small : back < 2 ^ 32) where
      trap_ds : AreRegisters (set m.d 15 tin)
      trap_ds = AreRegisters-set m.d 15 tin tin_small words.d

      trap_same : (a : List ℕ) (r : ℕ) → r ≢ 15 → reg_of (set m.d 15 tin) a r ≡ reg_of m.d a r
      trap_same a r other = set_d15 m.d a tin r other

      trap_tin : (a : List ℕ) → reg_of (set m.d 15 tin) a 15 ≡ tin
      trap_tin a = let long = (words.d).count in get_or-set_same m.d 15 tin 0 (omega arith)

    -- ---- a misaligned access
    module _ (node : NodeData) (found : Found image plan cert is_cert accepted (aln_key plan (frame.node).key) node)
        (at : PointFor node (bit_or plan.btv (2 * 2 ^ 5)) (aln_entry plan (frame.node).key (k.point).state)) (room : length ((k.point).state).locals.items + 1 + node.need ≤ (frame.node).need) where
      four : 4 < 2 ^ 32
      four = omega arith

      pub aln_begins : Begins plan cert m frame (k.point).state (set m.d 15 4) (handler_a m m.pc) (bit_or m.btv (2 * 2 ^ 5)) (handler_psw m.psw) false m.ccpn m.pc (handler_key 4 (bit_or m.btv (2 * 2 ^ 5)) ((frame.node).key).prio)
      aln_begins =
          let ds = trap_ds 4 four m.pc words.pc in
          let same = trap_same 4 four m.pc words.pc in
          record {
            node = node;
            stands = found.stands;
            key_is = found.key ∙ ap (λ v. handler_key 4 (bit_or v (2 * 2 ^ 5)) ((frame.node).key).prio) (sym k.btv);
            a11_is = handler_back (set m.d 15 4) ds same m.pc words.pc;
            need = room;
            point = at.point;
            found = rw k.btv at.found;
            inside =
                holds_covered plan (at.point).state (aln_entry plan (frame.node).key (k.point).state) (reg_of (set m.d 15 4) (handler_a m m.pc)) false m.ccpn at.covers (aln_length plan (frame.node).key (k.point).state)
                (holds_aln plan (frame.node).key (k.point).state (reg m) (reg_of (set m.d 15 4) (handler_a m m.pc)) m.ie m.ccpn k.inside (handler_member (set m.d 15 4) ds same m.pc words.pc)
                (λ r lt. handler_small (set m.d 15 4) ds same m.pc words.pc r) (handler_address (set m.d 15 4) ds same m.pc words.pc) (trap_tin 4 four m.pc words.pc (handler_a m m.pc)));
            none =
                implied_length ((at.point).state).locals.items ((aln_entry plan (frame.node).key (k.point).state).locals.items) (at.covers).locals
                ∙ set_none (state_with_only_a10 (handler_entry_sp_of plan (frame.node).key (k.point).state) false ((k.point).state).ccpn true) (word_val 4) (register_slot 15) ∙ entry_none (handler_entry_sp_of plan (frame.node).key (k.point).state) false ((k.point).state).ccpn true;
            is = handler_is m.psw ∙ sym (ap (λ k. k.is) found.key);
            lower = handler_lower (set m.d 15 4) ds same m.pc words.pc;
            goes_on = goes_back node (inr (ap (λ k. k.kind) found.key));
          }

    -- ---- a system call
    module _ (tin : ℕ) (tin_small : tin < 2 ^ 32) (back : ℕ) (small : back < 2 ^ 32) (node : NodeData) (found : Found image plan cert is_cert accepted (sys_key plan (frame.node).key) node)
        (at : PointFor node (bit_or plan.btv (6 * 2 ^ 5)) (sys_entry plan (frame.node).key (k.point).state tin)) (exits : IfSome node.exit (λ x. PointFor frame.node back (state_after_return (k.point).state x 3)))
        (room : length ((k.point).state).locals.items + 1 + node.need ≤ (frame.node).need) where
      sys_kind : (node.key).kind ≡ 3
      sys_kind = ap (λ k. k.kind) found.key

      sys_goes_on : (word : ℕ → ℕ) (ie : Bool) (ccpn : ℕ) → UpperSame (reg m) word → word 27 < 2 ^ 32 → Leaves m.ie m.ccpn node (reg m) word ie ccpn → Resumed plan frame back word ie ccpn
      sys_goes_on word ie ccpn upper a11_small (by_return x is kind h) = let three = sys_kind in absurd (omega arith)
      sys_goes_on word ie ccpn upper a11_small (from_system x ie2 ccpn2 is kind h enabled priority) =
          after image plan cert most is_cert accepted m words frame below k regs x 3 back word ie ccpn (if_some (λ x. PointFor frame.node back (state_after_return (k.point).state x 3)) node.exit x exits is)
          (holds_after_system plan (k.point).state x 3 word regs (upper_in image plan cert most is_cert accepted m words frame below k regs word upper a11_small) ie ie2 ccpn ccpn2 (omega arith) h
          (λ t. (k.inside).enabled (sym enabled ∙ t)) (rw priority (k.inside).priority))
      sys_goes_on word ie ccpn upper a11_small (from_handler kind lower enabled priority) =
          let three = sys_kind in elim kind [ inl two ↦ absurd (omega arith) | inr four ↦ absurd (omega arith) ]

      pub sys_begins : Begins plan cert m frame (k.point).state (set m.d 15 tin) (handler_a m back) (bit_or m.btv (6 * 2 ^ 5)) (handler_psw m.psw) false m.ccpn back (handler_key 3 (bit_or m.btv (6 * 2 ^ 5)) ((frame.node).key).prio)
      sys_begins =
          let ds = trap_ds tin tin_small back small in
          let same = trap_same tin tin_small back small in
          record {
            node = node;
            stands = found.stands;
            key_is = found.key ∙ ap (λ v. handler_key 3 (bit_or v (6 * 2 ^ 5)) ((frame.node).key).prio) (sym k.btv);
            a11_is = handler_back (set m.d 15 tin) ds same back small;
            need = room;
            point = at.point;
            found = rw k.btv at.found;
            inside =
                holds_covered plan (at.point).state (sys_entry plan (frame.node).key (k.point).state tin) (reg_of (set m.d 15 tin) (handler_a m back)) false m.ccpn at.covers (sys_length plan (frame.node).key (k.point).state tin ∙ regs)
                (holds_sys plan (frame.node).key (k.point).state (reg m) (reg_of (set m.d 15 tin) (handler_a m back)) m.ie m.ccpn k.inside (handler_member (set m.d 15 tin) ds same back small) tin regs
                (handler_small (set m.d 15 tin) ds same back small 27) (trap_tin tin tin_small back small (handler_a m back)) (λ r lt n15 n26 n27. handler_same (set m.d 15 tin) ds same back small r n15 n26 n27));
            none = implied_length ((at.point).state).locals.items [] (at.covers).locals;
            is = handler_is m.psw ∙ sym (ap (λ k. k.is) found.key);
            lower = handler_lower (set m.d 15 tin) ds same back small;
            goes_on = sys_goes_on;
          }
