-- Every step keeps the bounds of a machine's registers and bytes.
use Rattle.std.proofs.Common.{◌≡◌, ℕ, ◌+◌, ◌-◌, ◌*◌, ◌/◌, ◌%◌, ◌^◌, ◌<◌, Bool, true, false, cond, List, [], ◌∷◌, get_or, set, Result, Ok, Err, refl, arith, bit_or, ◌==◌, nat_lt, ◌&&◌, inl, inr, subst}
use Rattle.std.proofs.lemmas.Bool.{cond_both, and_parts, ltb-true}
use Rattle.std.proofs.lemmas.List.Sums.{AllPass-from_list_all}
use Rattle.tcd_plan.specs.PlanData.{PlanData, IsPlan}
use Rattle.std.proofs.lemmas.Nat.{or_lt}
use Rattle.csa_chain.specs.Chain.{link_in, link_address, is_area_mapped, area_word}
use Rattle.csa_chain.specs.ContextWordLaws.{IsListOfWords}
use Rattle.csa_chain.specs.ContextWords.{pcpn_of, pie_of}
use Rattle.csa_chain.proofs.ContextLaws.{pcxi_word-lt, with_link-lt, link_in-lt, pcpn_of-lt}
use Rattle.csa_chain.proofs.WordLaws.{area_word-lt, HasBytes-with_words, All-16, d_after_upper-HasWords, a_after_upper-HasWords, d_after_lower-HasWords, a_after_lower-HasWords}
use Rattle.tc_isa.specs.declared.shapes.Arg.{Arg}
use Rattle.tc_isa.specs.declared.shapes.Arg.TheVariants.{Reg, Word}
use Rattle.tc_isa.specs.declared.shapes.Target.{Target}
use Rattle.tc_isa.specs.declared.shapes.Target.TheVariants as target
use Rattle.tc_isa.specs.declared.shapes.Shape.{Shape}
use Rattle.tc_isa.specs.declared.shapes.Shape.TheVariants.{Compute, Scaled, Load, Store, Branch, Jump, Call, Ret, Rfe, Svlcx, Rslcx, Bisr, Enable, Disable, Syscall, Mfcr, Mtcr, Nothing}
use Rattle.tc_isa.specs.Arithmetic.{alu_of, taken_of}
use Rattle.tc_isa.specs.Insts.{InstData, IsInst}
use Rattle.tc_encode.specs.Decoding.{decoded_of}
use Rattle.tc_encode.proofs.DecodeProofs.{decode_laws}
use Rattle.tc_encode.specs.declared.errors.DecodeErr.{DecodeErr}
use Rattle.tc_machine.specs.declared.events.Cause.{Cause}
use Rattle.tc_machine.specs.declared.events.Cause.TheVariants.{Fcd, Fcu, Csu, Ctyp, NoArea, NoCode}
use Rattle.tc_machine.specs.declared.events.End.{End}
use Rattle.tc_machine.specs.declared.events.End.TheVariants.{Running, Dead}
use Rattle.tc_machine.specs.declared.events.Event.{Event}
use Rattle.tc_machine.specs.declared.state.Machine.{Machine}
use Rattle.tc_machine.specs.Machine.{reg, with_reg, a10, a11, is_interrupt_stack_used, dead_machine, if_end_running, if_running, psw_with_status, AreRegisters, IsMachine, core_register, with_core_register}
use Rattle.tc_machine.specs.Instructions.{wrapping_sum, operand_value, with_pc_advanced, access_address, with_base_incremented, is_trapping_access, misaligned_access_trap, target_address, with_register_decremented, after_instruction}
use Rattle.tc_machine.specs.Handlers.{handler_psw, handler_stack_pointer, at_handler_entry, after_trap, after_interrupt}
use Rattle.tc_machine.specs.Stepping.{is_interrupt_taken, after_fetch_result, machine_after_event, step, run}
use Rattle.tc_machine.specs.SavesAndRestores.{context_of, with_context_saved, save, is_last_context_of_kind, last_context, with_area_released, with_context_restored, restore}
use Rattle.csa_chain.specs.MemoryBytes.{loaded_number, with_bytes, load_result}
use Rattle.tc_machine.specs.Fetching.{mapped_bytes, fetched_shape, fetched_instruction}
use Rattle.tc_machine.specs.Safe.{Fits, AllFit}
use Rattle.tc_machine.proofs.Saves.{moved-lt}
use Rattle.tc_machine.proofs.ShapeWords.{IsArg, IsTarget, IsShape, shape_of-suits}
use Rattle.tc_machine.proofs.Words.{register_lt, AreRegisters-set, alu_lt, load_lt, HasBytes-with_bytes}

abbrev IsWord : ℕ → Type 0
IsWord w = w < 2 ^ 32

has_words : (ws : List ℕ) → AreRegisters ws → IsListOfWords 16 ws
has_words ws h = (h.count, h.words)

are_registers : (ws : List ℕ) → IsListOfWords 16 ws → AreRegisters ws
are_registers ws h = record { count = h.0; words = h.1 }

-- ---- reading
reg_lt : (m : Machine) → IsMachine m → (r : ℕ) → reg m r < 2 ^ 32
reg_lt m k r = cond_both (nat_lt r 16) (get_or m.d r 0) (get_or m.a (r - 16) 0) (λ w. w < 2 ^ 32) (λ _. register_lt m.d k.d r) (λ _. register_lt m.a k.a (r - 16))

arg_lt : (m : Machine) → IsMachine m → (x : Arg) → IsArg x → operand_value m x < 2 ^ 32
arg_lt m k (Reg r) h = reg_lt m k r
arg_lt m k (Word w) h = h

half_lt : (x : ℕ) → x < 2 ^ 32 → x / 2 * 2 < 2 ^ 32
half_lt x h = omega arith

target_lt : (m : Machine) → IsMachine m → (to : Target) → IsTarget to → target_address m to < 2 ^ 32
target_lt m k (target.Rel by) h = moved-lt m.pc by
target_lt m k (target.Abs x) h = h
target_lt m k (target.Reg r) h = half_lt (reg m r) (reg_lt m k r)

icr_lt : (m : Machine) (input : ℕ) (b : Bool) → m.ccpn < 2 ^ 8 → input < 2 ^ 32 → input / 2 ^ 9 * 2 ^ 9 + cond b (2 ^ 8) 0 + m.ccpn < 2 ^ 32
icr_lt m input true h g = omega arith
icr_lt m input false h g = omega arith

core_register_lt : (m : Machine) → IsMachine m → (e : Event) → e.input < 2 ^ 32 → (number : ℕ) → core_register m e number < 2 ^ 32
core_register_lt m k e small number =
    cond_both (number == 0xfe00) _ _ IsWord (λ _. k.pcxi) (λ _.
    cond_both (number == 0xfe04) _ _ IsWord (λ _. k.psw) (λ _.
    cond_both (number == 0xfe20) _ _ IsWord (λ _. k.biv) (λ _.
    cond_both (number == 0xfe24) _ _ IsWord (λ _. k.btv) (λ _.
    cond_both (number == 0xfe28) _ _ IsWord (λ _. k.isp) (λ _.
    cond_both (number == 0xfe2c) _ _ IsWord (λ _. icr_lt m e.input m.ie k.ccpn small) (λ _.
    cond_both (number == 0xfe38) _ _ IsWord (λ _. k.fcx) (λ _.
    cond_both (number == 0xfe3c) _ _ IsWord (λ _. k.lcx) (λ _. small))))))))

-- ---- small changes
stays_at : (m : Machine) → IsMachine m → (pc : ℕ) → pc < 2 ^ 32 → IsMachine (record m { pc = pc })
stays_at m k pc small = record { d = k.d; a = k.a; pc = small; psw = k.psw; pcxi = k.pcxi; fcx = k.fcx; lcx = k.lcx; ccpn = k.ccpn; biv = k.biv; btv = k.btv; isp = k.isp; bytes = k.bytes }

stays_advanced : (m : Machine) → IsMachine m → (n : ℕ) → IsMachine (with_pc_advanced n m)
stays_advanced m k n = stays_at m k (wrapping_sum m.pc n) (moved-lt m.pc n)

stays_died : (m : Machine) → IsMachine m → (cause : Cause) → IsMachine (dead_machine cause m)
stays_died m k cause = record { d = k.d; a = k.a; pc = k.pc; psw = k.psw; pcxi = k.pcxi; fcx = k.fcx; lcx = k.lcx; ccpn = k.ccpn; biv = k.biv; btv = k.btv; isp = k.isp; bytes = k.bytes }

stays_reg : (m : Machine) → IsMachine m → (r w : ℕ) → w < 2 ^ 32 → IsMachine (with_reg m r w)
stays_reg m k r w small =
    cond_both (nat_lt r 16) (record m { d = set m.d r w }) (record m { a = set m.a (r - 16) w }) IsMachine
    (λ _. record { d = AreRegisters-set m.d r w small k.d; a = k.a; pc = k.pc; psw = k.psw; pcxi = k.pcxi; fcx = k.fcx; lcx = k.lcx; ccpn = k.ccpn; biv = k.biv; btv = k.btv; isp = k.isp; bytes = k.bytes })
    (λ _. record { d = k.d; a = AreRegisters-set m.a (r - 16) w small k.a; pc = k.pc; psw = k.psw; pcxi = k.pcxi; fcx = k.fcx; lcx = k.lcx; ccpn = k.ccpn; biv = k.biv; btv = k.btv; isp = k.isp; bytes = k.bytes })

goes_on-stays : (end : End) (m : Machine) → IsMachine m → (next : Machine → Machine) → ((n : Machine) → IsMachine n → IsMachine (next n)) → IsMachine (if_end_running end m next)
goes_on-stays Running m k next h = h m k
goes_on-stays (Dead cause) m k next h = k

stays_then : (m : Machine) → IsMachine m → (next : Machine → Machine) → ((n : Machine) → IsMachine n → IsMachine (next n)) → IsMachine (if_running m next)
stays_then m k next h = goes_on-stays m.end m k next h

-- ---- saves and restores
stays_saved : (m : Machine) → IsMachine m → (upper : Bool) → IsMachine (with_context_saved m upper)
stays_saved m k upper =
    let free = link_in m.fcx in
    let next = link_in (area_word m.mem free 0) in
    record {
      d = k.d;
      a = k.a;
      pc = k.pc;
      psw = k.psw;
      pcxi = pcxi_word-lt m.core m.ccpn m.ie upper free (link_in-lt m.fcx) k.ccpn;
      fcx = with_link-lt m.fcx next k.fcx (link_in-lt (area_word m.mem free 0));
      lcx = k.lcx;
      ccpn = k.ccpn;
      biv = k.biv;
      btv = k.btv;
      isp = k.isp;
      bytes = HasBytes-with_words m.mem (link_address free) (context_of m upper) k.bytes;
    }

pub stays_save : (m : Machine) → IsMachine m → (upper : Bool) → IsMachine (save m upper)
unfolding save
stays_save m k upper =
    cond_both (link_in m.fcx == 0) (dead_machine Fcu m) (cond (is_area_mapped m.mem (link_in m.fcx)) (cond (link_in m.fcx == link_in m.lcx) (dead_machine Fcd (with_context_saved m upper)) (with_context_saved m upper)) (dead_machine NoArea m)) IsMachine
    (λ _. stays_died m k Fcu)
    (λ _. cond_both (is_area_mapped m.mem (link_in m.fcx)) (cond (link_in m.fcx == link_in m.lcx) (dead_machine Fcd (with_context_saved m upper)) (with_context_saved m upper)) (dead_machine NoArea m) IsMachine
    (λ _. cond_both (link_in m.fcx == link_in m.lcx) (dead_machine Fcd (with_context_saved m upper)) (with_context_saved m upper) IsMachine
    (λ _. stays_died (with_context_saved m upper) (stays_saved m k upper) Fcd) (λ _. stays_saved m k upper))
    (λ _. stays_died m k NoArea))

last_words : (m : Machine) → IsMachine m → IsListOfWords 16 (last_context m)
last_words m k =
    let w = area_word-lt m.mem k.bytes (link_in m.pcxi) in
    (refl, All-16 IsWord _ _ _ _ _ _ _ _ _ _ _ _ _ _ _ _ (w 0) (w 1) (w 2) (w 3) (w 4) (w 5) (w 6) (w 7) (w 8) (w 9) (w 10) (w 11) (w 12) (w 13) (w 14) (w 15))

stays_released : (m : Machine) → IsMachine m → IsMachine (with_area_released m)
stays_released m k =
    let used = link_in m.pcxi in
    record {
      d = k.d;
      a = k.a;
      pc = k.pc;
      psw = k.psw;
      pcxi = area_word-lt m.mem k.bytes used 0;
      fcx = with_link-lt m.fcx used k.fcx (link_in-lt m.pcxi);
      lcx = k.lcx;
      ccpn = k.ccpn;
      biv = k.biv;
      btv = k.btv;
      isp = k.isp;
      bytes = HasBytes-with_words m.mem (link_address used) (m.fcx ∷ []) k.bytes;
    }

stays_restored : (m : Machine) → IsMachine m → (upper : Bool) → IsMachine (with_context_restored m upper)
stays_restored m k true =
    let r = stays_released m k in
    let last = last_words m k in
    let ds = has_words m.d k.d in
    let rs = has_words m.a k.a in
    record {
      d = are_registers _ (d_after_upper-HasWords m.pcxi m.psw (last_context m) m.d m.a k.pcxi k.psw last ds rs);
      a = are_registers _ (a_after_upper-HasWords m.pcxi m.psw (last_context m) m.d m.a k.pcxi k.psw last ds rs);
      pc = k.pc;
      psw = area_word-lt m.mem k.bytes (link_in m.pcxi) 1;
      pcxi = r.pcxi;
      fcx = r.fcx;
      lcx = k.lcx;
      ccpn = k.ccpn;
      biv = k.biv;
      btv = k.btv;
      isp = k.isp;
      bytes = r.bytes;
    }
stays_restored m k false =
    let r = stays_released m k in
    let last = last_words m k in
    let ds = has_words m.d k.d in
    let rs = has_words m.a k.a in
    record {
      d = are_registers _ (d_after_lower-HasWords m.pcxi m.psw (last_context m) m.d m.a k.pcxi k.psw last ds rs);
      a = are_registers _ (a_after_lower-HasWords m.pcxi m.psw (last_context m) m.d m.a k.pcxi k.psw last ds rs);
      pc = k.pc;
      psw = k.psw;
      pcxi = r.pcxi;
      fcx = r.fcx;
      lcx = k.lcx;
      ccpn = k.ccpn;
      biv = k.biv;
      btv = k.btv;
      isp = k.isp;
      bytes = r.bytes;
    }

pub stays_restore : (m : Machine) → IsMachine m → (upper : Bool) → IsMachine (restore m upper)
unfolding restore
stays_restore m k upper =
    cond_both (link_in m.pcxi == 0) (dead_machine Csu m) (cond (is_last_context_of_kind m upper) (cond (is_area_mapped m.mem (link_in m.pcxi)) (with_context_restored m upper) (dead_machine NoArea m)) (dead_machine Ctyp m)) IsMachine
    (λ _. stays_died m k Csu)
    (λ _. cond_both (is_last_context_of_kind m upper) (cond (is_area_mapped m.mem (link_in m.pcxi)) (with_context_restored m upper) (dead_machine NoArea m)) (dead_machine Ctyp m) IsMachine
    (λ _. cond_both (is_area_mapped m.mem (link_in m.pcxi)) (with_context_restored m upper) (dead_machine NoArea m) IsMachine (λ _. stays_restored m k upper) (λ _. stays_died m k NoArea))
    (λ _. stays_died m k Ctyp))

-- ---- handlers
handler_psw-lt : (psw : ℕ) → psw < 2 ^ 32 → handler_psw psw < 2 ^ 32
handler_psw-lt psw h = omega arith

stack_lt : (m : Machine) → IsMachine m → handler_stack_pointer m < 2 ^ 32
stack_lt m k = cond_both (is_interrupt_stack_used m.psw) (a10 m) m.isp IsWord (λ _. register_lt m.a k.a 10) (λ _. k.isp)

stays_handler : (m : Machine) → IsMachine m → (s : Machine) → IsMachine s → (back entry ccpn : ℕ) → back < 2 ^ 32 → entry < 2 ^ 32 → ccpn < 2 ^ 8 → IsMachine (record (at_handler_entry m s back entry) { ccpn = ccpn })
stays_handler m k s h back entry ccpn back_small entry_small ccpn_small = record {
  d = h.d;
  a = AreRegisters-set _ 10 (handler_stack_pointer m) (stack_lt m k) (AreRegisters-set s.a 11 back back_small h.a);
  pc = entry_small;
  psw = handler_psw-lt m.psw k.psw;
  pcxi = h.pcxi;
  fcx = h.fcx;
  lcx = h.lcx;
  ccpn = ccpn_small;
  biv = h.biv;
  btv = h.btv;
  isp = h.isp;
  bytes = h.bytes;
}

pub stays_interrupt : (m : Machine) → IsMachine m → (irq : ℕ) → irq < 2 ^ 8 → IsMachine (after_interrupt m irq)
stays_interrupt m k irq small =
    stays_then (save m true) (stays_save m k true) _ (λ s h. stays_handler m k s h m.pc (bit_or m.biv (irq * 2 ^ 5)) irq k.pc (or_lt 32 m.biv (irq * 2 ^ 5) k.biv (omega arith)) small)

with_d15 : (m : Machine) → IsMachine m → (w : ℕ) → w < 2 ^ 32 → IsMachine (record m { d = set m.d 15 w })
with_d15 m k w small = record { d = AreRegisters-set m.d 15 w small k.d; a = k.a; pc = k.pc; psw = k.psw; pcxi = k.pcxi; fcx = k.fcx; lcx = k.lcx; ccpn = k.ccpn; biv = k.biv; btv = k.btv; isp = k.isp; bytes = k.bytes }

pub stays_trap : (m : Machine) → IsMachine m → (class tin back : ℕ) → class < 8 → tin < 2 ^ 32 → back < 2 ^ 32 → IsMachine (after_trap m class tin back)
stays_trap m k class tin back low small back_small =
    stays_then (save m true) (stays_save m k true) _
    (λ s h. with_d15 (at_handler_entry m s back (bit_or m.btv (class * 2 ^ 5))) (stays_handler m k s h back (bit_or m.btv (class * 2 ^ 5)) s.ccpn back_small (or_lt 32 m.btv (class * 2 ^ 5) k.btv (omega arith)) h.ccpn) tin small)

stays_misaligned : (m : Machine) → IsMachine m → IsMachine (misaligned_access_trap m)
stays_misaligned m k = stays_trap m k 2 4 m.pc (omega arith) (omega arith) k.pc

-- ---- parts of instructions
stays_base : (m : Machine) → IsMachine m → (base : Arg) (offset : ℕ) (after : Bool) → IsMachine (with_base_incremented m base offset after)
stays_base m k (Reg r) offset after = cond_both after (with_reg m r (wrapping_sum (reg m r) offset)) m IsMachine (λ _. stays_reg m k r (wrapping_sum (reg m r) offset) (moved-lt (reg m r) offset)) (λ _. k)
stays_base m k (Word w) offset after = k

stays_stored : (m : Machine) → IsMachine m → (base : Arg) (offset : ℕ) (after : Bool) (x w size : ℕ) → IsMachine (record (with_base_incremented m base offset after) { mem = with_bytes m.mem x w size })
stays_stored m k base offset after x w size =
    let b = stays_base m k base offset after in
    record { d = b.d; a = b.a; pc = b.pc; psw = b.psw; pcxi = b.pcxi; fcx = b.fcx; lcx = b.lcx; ccpn = b.ccpn; biv = b.biv; btv = b.btv; isp = b.isp; bytes = HasBytes-with_bytes m.mem x w size k.bytes }

stays_lowered : (m : Machine) → IsMachine m → (x : ℕ) (lowers : Bool) → IsMachine (with_register_decremented m x lowers)
stays_lowered m k x lowers = cond_both lowers (with_reg m x (wrapping_sum (reg m x) (2 ^ 32 - 1))) m IsMachine (λ _. stays_reg m k x (wrapping_sum (reg m x) (2 ^ 32 - 1)) (moved-lt (reg m x) (2 ^ 32 - 1))) (λ _. k)

stays_core : (m : Machine) → IsMachine m → (number w : ℕ) → w < 2 ^ 32 → IsMachine (with_core_register m number w)
stays_core m k number w small =
    let half = half_lt w small in
    cond_both (number == 0xfe00) _ _ IsMachine (λ _. record { d = k.d; a = k.a; pc = k.pc; psw = k.psw; pcxi = small; fcx = k.fcx; lcx = k.lcx; ccpn = k.ccpn; biv = k.biv; btv = k.btv; isp = k.isp; bytes = k.bytes }) (λ _.
    cond_both (number == 0xfe04) _ _ IsMachine (λ _. record { d = k.d; a = k.a; pc = k.pc; psw = small; pcxi = k.pcxi; fcx = k.fcx; lcx = k.lcx; ccpn = k.ccpn; biv = k.biv; btv = k.btv; isp = k.isp; bytes = k.bytes }) (λ _.
    cond_both (number == 0xfe20) _ _ IsMachine (λ _. record { d = k.d; a = k.a; pc = k.pc; psw = k.psw; pcxi = k.pcxi; fcx = k.fcx; lcx = k.lcx; ccpn = k.ccpn; biv = half; btv = k.btv; isp = k.isp; bytes = k.bytes }) (λ _.
    cond_both (number == 0xfe24) _ _ IsMachine (λ _. record { d = k.d; a = k.a; pc = k.pc; psw = k.psw; pcxi = k.pcxi; fcx = k.fcx; lcx = k.lcx; ccpn = k.ccpn; biv = k.biv; btv = half; isp = k.isp; bytes = k.bytes }) (λ _.
    cond_both (number == 0xfe28) _ _ IsMachine (λ _. record { d = k.d; a = k.a; pc = k.pc; psw = k.psw; pcxi = k.pcxi; fcx = k.fcx; lcx = k.lcx; ccpn = k.ccpn; biv = k.biv; btv = k.btv; isp = small; bytes = k.bytes }) (λ _.
    cond_both (number == 0xfe2c) _ _ IsMachine (λ _. record { d = k.d; a = k.a; pc = k.pc; psw = k.psw; pcxi = k.pcxi; fcx = k.fcx; lcx = k.lcx; ccpn = omega arith; biv = k.biv; btv = k.btv; isp = k.isp; bytes = k.bytes }) (λ _.
    cond_both (number == 0xfe38) _ _ IsMachine (λ _. record { d = k.d; a = k.a; pc = k.pc; psw = k.psw; pcxi = k.pcxi; fcx = small; lcx = k.lcx; ccpn = k.ccpn; biv = k.biv; btv = k.btv; isp = k.isp; bytes = k.bytes }) (λ _.
    cond_both (number == 0xfe3c) _ _ IsMachine (λ _. record { d = k.d; a = k.a; pc = k.pc; psw = k.psw; pcxi = k.pcxi; fcx = k.fcx; lcx = small; ccpn = k.ccpn; biv = k.biv; btv = k.btv; isp = k.isp; bytes = k.bytes }) (λ _. k))))))))

stays_priority : (m : Machine) → IsMachine m → (pc ccpn : ℕ) (ie : Bool) → pc < 2 ^ 32 → ccpn < 2 ^ 8 → IsMachine (record m { pc = pc; ccpn = ccpn; ie = ie })
stays_priority m k pc ccpn ie small low = record { d = k.d; a = k.a; pc = small; psw = k.psw; pcxi = k.pcxi; fcx = k.fcx; lcx = k.lcx; ccpn = low; biv = k.biv; btv = k.btv; isp = k.isp; bytes = k.bytes }

stays_called : (m : Machine) → IsMachine m → (back to : ℕ) → back < 2 ^ 32 → to < 2 ^ 32 → IsMachine (record m { a = set m.a 11 back; pc = to })
stays_called m k back to small at = record { d = k.d; a = AreRegisters-set m.a 11 back small k.a; pc = at; psw = k.psw; pcxi = k.pcxi; fcx = k.fcx; lcx = k.lcx; ccpn = k.ccpn; biv = k.biv; btv = k.btv; isp = k.isp; bytes = k.bytes }

-- ---- instructions
pub stays_does : (m : Machine) → IsMachine m → (e : Event) → e.input < 2 ^ 32 → (shape : Shape) (n : ℕ) → IsShape shape → IsMachine (after_instruction m e shape n)
unfolding after_instruction
stays_does m k e small (Compute op dst x y) n h = stays_advanced _ (stays_reg m k dst (alu_of op (operand_value m x) (operand_value m y)) (alu_lt op (operand_value m x) (operand_value m y) (arg_lt m k x h.0) (arg_lt m k y h.1))) n
stays_does m k e small (Scaled dst base index c) n h = stays_advanced _ (stays_reg m k dst (wrapping_sum (reg m base) (reg m index * 2 ^ c)) (moved-lt (reg m base) (reg m index * 2 ^ c))) n
stays_does m k e small (Load dst base offset size signed after) n h =
    let x = access_address m base offset after in
    cond_both (is_trapping_access e x size) (misaligned_access_trap m) (with_pc_advanced n (with_reg (with_base_incremented m base offset after) dst (load_result signed size (loaded_number m.mem e.input x size)))) IsMachine (λ _. stays_misaligned m k)
    (λ _. stays_advanced _ (stays_reg (with_base_incremented m base offset after) (stays_base m k base offset after) dst (load_result signed size (loaded_number m.mem e.input x size)) (load_lt m.mem k.bytes signed e.input x size h)) n)
stays_does m k e small (Store src base offset size after) n h =
    let x = access_address m base offset after in
    cond_both (is_trapping_access e x size) (misaligned_access_trap m) (with_pc_advanced n (record (with_base_incremented m base offset after) { mem = with_bytes m.mem x (reg m src) size })) IsMachine (λ _. stays_misaligned m k)
    (λ _. stays_advanced _ (stays_stored m k base offset after x (reg m src) size) n)
stays_does m k e small (Branch cond' x y by lowers) n h =
    stays_at (with_register_decremented m x lowers) (stays_lowered m k x lowers) (cond (taken_of cond' (reg m x) (operand_value m y)) (wrapping_sum m.pc by) (wrapping_sum m.pc n))
    (cond_both (taken_of cond' (reg m x) (operand_value m y)) (wrapping_sum m.pc by) (wrapping_sum m.pc n) IsWord (λ _. moved-lt m.pc by) (λ _. moved-lt m.pc n))
stays_does m k e small (Jump to) n h = stays_at m k (target_address m to) (target_lt m k to h)
stays_does m k e small (Call to) n h = stays_then (save m true) (stays_save m k true) _ (λ s ks. stays_called s ks (wrapping_sum m.pc n) (target_address m to) (moved-lt m.pc n) (target_lt m k to h))
stays_does m k e small Ret n h = stays_then (restore m true) (stays_restore m k true) _ (λ r kr. stays_at r kr (a11 m / 2 * 2) (half_lt (a11 m) (register_lt m.a k.a 11)))
stays_does m k e small Rfe n h =
    stays_then (restore m true) (stays_restore m k true) _
    (λ r kr. stays_priority r kr (a11 m / 2 * 2) (pcpn_of m.core m.pcxi) (pie_of m.core m.pcxi) (half_lt (a11 m) (register_lt m.a k.a 11)) (pcpn_of-lt m.core m.pcxi))
stays_does m k e small Svlcx n h = stays_then (save m false) (stays_save m k false) _ (λ s ks. stays_advanced s ks n)
stays_does m k e small Rslcx n h = stays_then (restore m false) (stays_restore m k false) _ (λ r kr. stays_advanced r kr n)
stays_does m k e small (Bisr c) n h = stays_then (save m false) (stays_save m k false) _ (λ s ks. stays_priority s ks (wrapping_sum s.pc n) c true (moved-lt s.pc n) h)
stays_does m k e small Enable n h = stays_priority m k (wrapping_sum m.pc n) m.ccpn true (moved-lt m.pc n) k.ccpn
stays_does m k e small Disable n h = stays_priority m k (wrapping_sum m.pc n) m.ccpn false (moved-lt m.pc n) k.ccpn
stays_does m k e small (Syscall tin) n h = stays_trap m k 6 tin (wrapping_sum m.pc n) (omega arith) h (moved-lt m.pc n)
stays_does m k e small (Mfcr dst number) n h = stays_advanced _ (stays_reg m k dst (core_register m e number) (core_register_lt m k e small number)) n
stays_does m k e small (Mtcr src number) n h = stays_advanced _ (stays_core m k number (reg m src) (reg_lt m k src)) n
stays_does m k e small Nothing n h = stays_advanced m k n

-- ---- steps
abbrev IfShape : Result (Shape × ℕ) Cause → Type 0
IfShape (Ok found) = IsShape found.0
IfShape (Err cause) = Unit {0}

shaped-suits : (r : Result (InstData × ℕ) DecodeErr) → ((i : InstData) (n : ℕ) → r ≡ Ok (i, n) → IsInst i) → IfShape (fetched_shape r)
shaped-suits (Ok found) h = shape_of-suits found.0 (h found.0 found.1 refl)
shaped-suits (Err e) h = tt

fetched-suits : (m : Machine) → IfShape (fetched_instruction m)
unfolding fetched_instruction
fetched-suits m =
    let bytes = mapped_bytes 4 m.mem m.pc in
    cond_both (m.pc % 2 == 0) (fetched_shape (decoded_of bytes)) (Err NoCode) IfShape (λ _. shaped-suits (decoded_of bytes) (λ i n is. (decode_laws.decoded bytes i n is).inst)) (λ _. tt)

stays_executed : (m : Machine) → IsMachine m → (e : Event) → e.input < 2 ^ 32 → (r : Result (Shape × ℕ) Cause) → IfShape r → IsMachine (after_fetch_result m e r)
stays_executed m k e small (Ok found) h = stays_does m k e small found.0 found.1 h
stays_executed m k e small (Err cause) h = stays_died m k cause

stays_done : (m : Machine) → IsMachine m → (e : Event) → e.irq < 2 ^ 8 → e.input < 2 ^ 32 → IsMachine (machine_after_event m e)
stays_done m k e irq small =
    cond_both (is_interrupt_taken m e) (after_interrupt m e.irq) (after_fetch_result m e (fetched_instruction m)) IsMachine (λ _. stays_interrupt m k e.irq irq) (λ _. stays_executed m k e small (fetched_instruction m) (fetched-suits m))

with_status-lt : (psw status : ℕ) → status < 2 ^ 8 → psw_with_status psw status < 2 ^ 32
with_status-lt psw status h = omega arith

stays_status : (m : Machine) → IsMachine m → (status : ℕ) → status < 2 ^ 8 → IsMachine (record m { psw = psw_with_status m.psw status })
stays_status m k status small = record { d = k.d; a = k.a; pc = k.pc; psw = with_status-lt m.psw status small; pcxi = k.pcxi; fcx = k.fcx; lcx = k.lcx; ccpn = k.ccpn; biv = k.biv; btv = k.btv; isp = k.isp; bytes = k.bytes }

pub stays_step : (m : Machine) (e : Event) → IsMachine m → e.irq < 2 ^ 8 → e.input < 2 ^ 32 → e.status < 2 ^ 8 → IsMachine (step m e)
unfolding step
stays_step m e k irq input status =
    stays_then m k _ (λ n kn. stays_then (machine_after_event n e) (stays_done n kn e irq input) _ (λ r kr. stays_status r kr e.status status))

-- ---- runs
one_irq : (q : ℕ) → (nat_lt 0 q && nat_lt q (2 ^ 8)) ≡ true → q < 2 ^ 8
one_irq q h = ltb-true q (2 ^ 8) (and_parts (nat_lt 0 q) (nat_lt q (2 ^ 8)) h).1

-- the interrupt of an event that fits has 8 bits
pub irq_lt : {plan : PlanData} → IsPlan plan → (m : Machine) (e : Event) → Fits plan m e → e.irq < 2 ^ 8
irq_lt {plan = plan} ok m e fits =
    elim fits.irq [
      | inl none ↦ omega arith
      | inr c ↦ subst (λ q. q < 2 ^ 8) c.2 (one_irq _ (AllPass-from_list_all (λ q. nat_lt 0 q && nat_lt q (2 ^ 8)) plan.irqs (ok.irqs).each c.0 e.irq c.1))
    ]

pub stays_run : {plan : PlanData} → IsPlan plan → (m : Machine) (es : List Event) → IsMachine m → AllFit plan m es → IsMachine (run m es)
stays_run ok m [] k fits = k
stays_run ok m (e ∷ es) k fits = stays_run ok (step m e) es (stays_step m e k (irq_lt ok m e fits.0) fits.0.input fits.0.status) fits.1
