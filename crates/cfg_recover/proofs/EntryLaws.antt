-- Words that a state holds are held by the states that cover it, at the entries of frames, by
-- exits, and after returns.
use Rattle.std.proofs.Common.{◌≡◌, ◌≢◌, ℕ, zero, suc, ◌+◌, ◌-◌, ◌<◌, ◌≤◌, ◌^◌, ◌⊎◌, ◌&&◌, inl, inr, Bool, true, false, cond, List, [], ◌∷◌, length, get_or, take, drop, replicate, refl, sym, ap, ◌∙◌, subst, arith, Option, Some, None, IsTrue, ltb, leb, if◌then◌else◌, length-append, length-take-le, length-drop, get_or-take, get_or-drop}
use Rattle.std.specs.Prelude.{IfSome}
use Rattle.std.proofs.lemmas.Bool.{cases_Bool, cases_eq, cases_lt, eq-eqb, ne_eqb, lt-ltb, le-ltb, le-leb, lt-leb, ltb-true, leb-true, and_parts, or_cases, cond_both}
use Rattle.std.proofs.lemmas.List.{get_or-replicate, length-replicate, get_or_append_left, get_or-append_right}
use Rattle.elf_image.specs.Images.{ImageData}
use Rattle.tcd_plan.specs.PlanData.{PlanData}
use Rattle.tc_isa.specs.declared.shapes.Arg.{Arg}
use Rattle.tc_isa.specs.declared.shapes.Arg.TheVariants.{Reg, Word}
use Rattle.tc_isa.specs.declared.shapes.Cond.{Cond}
use Rattle.tc_isa.specs.declared.shapes.Op.TheVariants.{Add, Sub}
use Rattle.tc_isa.specs.declared.shapes.Shape.{Shape}
use Rattle.tc_isa.specs.declared.shapes.Shape.TheVariants.{Compute, Scaled, Load, Store, Branch, Rslcx, Mfcr}
use Rattle.tc_machine.specs.declared.state.Machine.{Machine}
use Rattle.tc_machine.specs.Machine.{reg, a10, is_interrupt_stack_used, IsMachine}
use Rattle.tc_machine.specs.Handlers.{handler_stack_pointer}
use Rattle.tc_machine.specs.Starting.{HasGlobals, Starts}
use Rattle.tc_machine.proofs.Words.{register_lt}
use Rattle.value_domain.specs.declared.values.Val.{Val}
use Rattle.value_domain.specs.declared.states.State.{State}
use Rattle.value_domain.specs.Limits.{Limits}
use Rattle.value_domain.specs.Values.{IsMember, any_val, word_val}
use Rattle.value_domain.specs.State.{AreBelow, Covers, is_lower_slot}
use Rattle.vd_transfer.specs.Operations.{operation_value}
use Rattle.vd_transfer.specs.Registers.{register_slot, reg_of, register_value_at, fixed_register_value, with_reg_value, is_lower_register, with_arg_value, is_same_register}
use Rattle.vd_transfer.specs.EffectsOnStates.{state_with_increased_base, transfer_of}
use Rattle.vd_transfer.specs.Branches.{refine_of, state_on_side, with_decremented_counter, state_with_narrowed_register, state_with_narrowed_operands}
use Rattle.vd_transfer.specs.Holding.{Holds}
use Rattle.vd_transfer.specs.EffectsOnWords.{words_with_register}
use Rattle.vd_transfer.proofs.RegisterLaws.{length-forgotten}
use Rattle.vd_transfer.proofs.SlotLaws.{slot_is, not_lower}
use Rattle.vd_transfer.proofs.HoldLaws.{same_length, holds_set, holds_narrow}
use Rattle.depth_cert.specs.declared.keys.Key.{Key}
use Rattle.depth_cert.specs.declared.points.Exit.{Exit}
use Rattle.cfg_recover.specs.Entries.{handler_entry_sp_of, state_with_only_a10, start_state, call_entry, irq_entry, aln_entry, sys_entry}
use Rattle.depth_cert.specs.Exits.{lower_values, exit_of_state, values_after_return_from, state_after_return, ExitCovers}

-- ---- states with the same values, or greater ones
covered_at : (plan : PlanData) (u s : State) (w r : ℕ) (o : Option ℕ) → o ≡ register_slot r → length s.regs ≡ 27 → AreBelow s.regs u.regs → IsMember w (register_value_at plan s r o) → IsMember w (register_value_at plan u r o)
covered_at plan u s w r None e len below m = m
covered_at plan u s w r (Some i) e len below m = below i (omega (arith, (slot_is r i (sym e)).within)) w m

-- a state that covers one that holds the words holds them, too
pub holds_covered : (plan : PlanData) (u s : State) (word : ℕ → ℕ) (ie : Bool) (ccpn : ℕ) → Covers u s → length s.regs ≡ 27 → Holds plan word ie ccpn s → Holds plan word ie ccpn u
holds_covered plan u s word ie ccpn c len h = record {
  regs = λ r lt. covered_at plan u s (word r) r (register_slot r) refl len c.regs (h.regs r lt);
  enabled = λ t. (c.context).0 (h.enabled t);
  priority = omega (arith, (c.context).1, h.priority);
}

any_member : (w : ℕ) → w < 2 ^ 32 → IsMember w any_val
any_member w h = (omega arith, omega arith, omega arith)

-- A11 may be any word
a11_any : (plan : PlanData) (t : State) (w : ℕ) → w < 2 ^ 32 → IsMember w (reg_of plan t 27)
unfolding register_slot
a11_any plan t w small = any_member w small

same_at : (plan : PlanData) (s t : State) (w r : ℕ) (o : Option ℕ) → t.regs ≡ s.regs → IsMember w (register_value_at plan s r o) → IsMember w (register_value_at plan t r o)
same_at plan s t w r (Some i) same m = subst (λ (l : List Val). IsMember w (get_or l i any_val)) (sym same) m
same_at plan s t w r None same m = m

-- the values stay, and A11 may be another word
pub holds_same : (plan : PlanData) (s t : State) (word word2 : ℕ → ℕ) (ie ie2 : Bool) (ccpn ccpn2 : ℕ) → t.regs ≡ s.regs → (IsTrue ie2 → IsTrue t.ie) → t.ccpn ≤ ccpn2
    → word2 27 < 2 ^ 32 → ((r : ℕ) → r < 32 → r ≢ 27 → word2 r ≡ word r) → Holds plan word ie ccpn s → Holds plan word2 ie2 ccpn2 t
holds_same plan s t word word2 ie ie2 ccpn ccpn2 same enabled priority small others h = record {
  regs = λ r lt.
      elim (cases_eq r 27) [
        | inl a11 ↦ subst (λ n. IsMember (word2 n) (reg_of plan t n)) (sym a11) (a11_any plan t (word2 27) small)
        | inr other ↦ rw (others r lt other) (same_at plan s t (word r) r (register_slot r) same (h.regs r lt))
      ];
  enabled = enabled;
  priority = priority;
}

-- at the entry of a called function
pub holds_call : (plan : PlanData) (s : State) (word word2 : ℕ → ℕ) (ie : Bool) (ccpn : ℕ) → word2 27 < 2 ^ 32 → ((r : ℕ) → r < 32 → r ≢ 27 → word2 r ≡ word r) → Holds plan word ie ccpn s
    → Holds plan word2 ie ccpn (call_entry s)
holds_call plan s word word2 ie ccpn small others h = holds_same plan s (call_entry s) word word2 ie ie ccpn ccpn refl h.enabled h.priority small others h

-- ---- registers without a value
some_none : (i : ℕ) → Some i ≡ None → ⊥
some_none i e = cc

some_slot : (r : ℕ) → r < 32 → r ≢ 16 → r ≢ 17 → r ≢ 24 → r ≢ 25 → r ≢ 27 → register_slot r ≡ None → ⊥
unfolding register_slot
some_slot r lt n16 n17 n24 n25 n27 e =
    elim (cases_lt r 16) [
      | inl dr ↦ some_none r (rw (lt-ltb r 16 dr) at e)
      | inr address ↦ elim (cases_lt r 24) [
        | inl low ↦ some_none (r - 2) (rw (le-ltb r 16 address, le-leb 18 r (omega arith), le-leb r 23 (omega arith)) at e)
        | inr high ↦ elim (cases_eq r 26) [
          | inl stack ↦ some_none 22 (subst (λ n. register_slot n ≡ None) stack e)
          | inr other ↦ some_none (r - 5) (rw (le-ltb r 16 address, le-leb 18 r (omega arith), lt-leb r 23 (omega arith), ne_eqb r 26 other, le-leb 28 r (omega arith), le-leb r 31 (omega arith)) at e)
        ]
      ]
    ]

-- the registers without a value are A0, A1, A8, A9 and A11
fixed_cases : (P : ℕ → Type 0) → P 16 → P 17 → P 24 → P 25 → P 27 → (r : ℕ) → r < 32 → register_slot r ≡ None → P r
fixed_cases P a0 a1 a8 a9 a11 r lt e =
    elim (cases_eq r 16) [
      | inl is ↦ subst P (sym is) a0
      | inr n16 ↦ elim (cases_eq r 17) [
        | inl is ↦ subst P (sym is) a1
        | inr n17 ↦ elim (cases_eq r 24) [
          | inl is ↦ subst P (sym is) a8
          | inr n24 ↦ elim (cases_eq r 25) [
            | inl is ↦ subst P (sym is) a9
            | inr n25 ↦ elim (cases_eq r 27) [
              | inl is ↦ subst P (sym is) a11
              | inr n27 ↦ absurd (some_slot r lt n16 n17 n24 n25 n27 e)
            ]
          ]
        ]
      ]
    ]

-- the words of A0, A1, A8 and A9 are the plan's
abbrev pub HasGlobalWords : PlanData → (ℕ → ℕ) → Type 0
HasGlobalWords plan word = (r : ℕ) → r < 32 → register_slot r ≡ None → IsMember (word r) (fixed_register_value plan r)

-- they are, if A0 to A9 are as in words that a state holds
pub globals_stay : (plan : PlanData) (s : State) (word word2 : ℕ → ℕ) (ie : Bool) (ccpn : ℕ) → word2 27 < 2 ^ 32 → ((r : ℕ) → 16 ≤ r → r < 26 → word2 r ≡ word r) → Holds plan word ie ccpn s → HasGlobalWords plan word2
unfolding register_slot
globals_stay plan s word word2 ie ccpn small same h =
    fixed_cases (λ r. IsMember (word2 r) (fixed_register_value plan r))
    (rw (same 16 (omega arith) (omega arith)) (h.regs 16 (omega arith)))
    (rw (same 17 (omega arith) (omega arith)) (h.regs 17 (omega arith)))
    (rw (same 24 (omega arith) (omega arith)) (h.regs 24 (omega arith)))
    (rw (same 25 (omega arith) (omega arith)) (h.regs 25 (omega arith)))
    (any_member (word2 27) small)

-- the word of a machine's register is below 2^32
pub reg_lt : (m : Machine) → IsMachine m → (r : ℕ) → reg m r < 2 ^ 32
reg_lt m k r =
    elim (cases_Bool (ltb r 16)) [
      | inl dr ↦ rw dr (register_lt m.d (k.d) r)
      | inr address ↦ rw address (register_lt m.a (k.a) (r - 16))
    ]

globals_start : (plan : PlanData) (m : Machine) → IsMachine m → HasGlobals plan m.a → HasGlobalWords plan (reg m)
globals_start plan m k same =
    fixed_cases (λ r. IsMember (reg m r) (fixed_register_value plan r)) (inl (ap (λ l. get_or l 0 0) same)) (inl (ap (λ l. get_or l 1 0) same)) (inl (ap (λ l. get_or l 2 0) same)) (inl (ap (λ l. get_or l 3 0) same))
    (any_member (reg m 27) (reg_lt m k 27))

-- ---- entries
-- a state in which nothing is known
abbrev blank : Bool → ℕ → Bool → State
blank ie ccpn lower = record { regs = replicate 27 any_val; ie = ie; ccpn = ccpn; lower = lower; locals = record { items = [] } }

blank_at : (plan : PlanData) (t : State) (w r : ℕ) (o : Option ℕ) → t.regs ≡ replicate 27 any_val → o ≡ register_slot r → w < 2 ^ 32 → (o ≡ None → IsMember w (fixed_register_value plan r)) → IsMember w (register_value_at plan t r o)
blank_at plan t w r None same e small fixed = fixed refl
blank_at plan t w r (Some i) same e small fixed =
    let is = slot_is r i (sym e) in
    subst (λ (v : Val). IsMember w v) (sym (ap (λ (l : List Val). get_or l i any_val) same ∙ get_or-replicate 27 i any_val any_val is.within)) (any_member w small)

-- at an entry: words whose A10 is a member of the stack pointer's value
pub holds_entry : (plan : PlanData) (word : ℕ → ℕ) (sp : Val) (ie ie2 : Bool) (ccpn ccpn2 : ℕ) (lower : Bool) → (IsTrue ie2 → IsTrue ie) → ccpn ≤ ccpn2 → ((r : ℕ) → r < 32 → word r < 2 ^ 32)
    → HasGlobalWords plan word → IsMember (word 26) sp → Holds plan word ie2 ccpn2 (state_with_only_a10 sp ie ccpn lower)
holds_entry plan word sp ie ie2 ccpn ccpn2 lower enabled priority small globals m =
    holds_narrow plan (blank ie ccpn lower) word ie2 ccpn2 26 sp (length-replicate 27 any_val) (omega arith) m
    (record {
      regs = λ r lt. blank_at plan (blank ie ccpn lower) (word r) r (register_slot r) refl refl (small r lt) (globals r lt);
      enabled = enabled;
      priority = priority;
    })

pub entry_length : (sp : Val) (ie : Bool) (ccpn : ℕ) (lower : Bool) → length (state_with_only_a10 sp ie ccpn lower).regs ≡ 27
entry_length sp ie ccpn lower = same_length (blank ie ccpn lower) sp (register_slot 26) ∙ length-replicate 27 any_val

-- the state at the start holds the registers of a start state of the machine
pub holds_start : (image : ImageData) (plan : PlanData) (m : Machine) → Starts image plan m → Holds plan (reg m) m.ie m.ccpn (start_state plan)
holds_start image plan m st =
    holds_entry plan (reg m) (word_val plan.sp) plan.start_ie m.ie plan.start_ccpn m.ccpn false (λ t. sym st.ie ∙ t) (omega (arith, st.ccpn)) (λ r lt. reg_lt m st.machine r)
    (globals_start plan m st.machine st.globals) (inl st.sp)

-- the stack pointer of a handler is a member of its value
pub stack_member : (plan : PlanData) (key : Key) (m : Machine) (s : State) (ie : Bool) (ccpn : ℕ) → is_interrupt_stack_used m.psw ≡ key.is → m.isp ≡ plan.isp → Holds plan (reg m) ie ccpn s → IsMember (handler_stack_pointer m) (handler_entry_sp_of plan key s)
stack_member plan key m s ie ccpn same isp h =
    elim (cases_Bool key.is) [
      | inl t ↦ rw (same, t) (h.regs 26 (omega arith))
      | inr f ↦ rw (same, f) (inl isp)
    ]

module _ (plan : PlanData) (key : Key) (s : State) (word word2 : ℕ → ℕ) (ie : Bool) (ccpn : ℕ) (h : Holds plan word ie ccpn s) (stack : IsMember (word2 26) (handler_entry_sp_of plan key s)) where
  -- at the entry of an interrupt's handler
  pub holds_irq : (p : ℕ) → ((r : ℕ) → r < 32 → word2 r < 2 ^ 32) → ((r : ℕ) → 16 ≤ r → r < 26 → word2 r ≡ word r) → Holds plan word2 false p (irq_entry plan key s p)
  holds_irq p small same = holds_entry plan word2 (handler_entry_sp_of plan key s) false false p p true (λ t. t) (omega arith) small (globals_stay plan s word word2 ie ccpn (small 27 (omega arith)) same h) stack

  -- at the entry of the handler of misaligned accesses
  pub holds_aln : ((r : ℕ) → r < 32 → word2 r < 2 ^ 32) → ((r : ℕ) → 16 ≤ r → r < 26 → word2 r ≡ word r) → word2 15 ≡ 4 → Holds plan word2 false ccpn (aln_entry plan key s)
  holds_aln small same four =
      holds_narrow plan (state_with_only_a10 (handler_entry_sp_of plan key s) false s.ccpn true) word2 false ccpn 15 (word_val 4) (entry_length (handler_entry_sp_of plan key s) false s.ccpn true) (omega arith) (inl four)
      (holds_entry plan word2 (handler_entry_sp_of plan key s) false false s.ccpn ccpn true (λ t. t) h.priority small (globals_stay plan s word word2 ie ccpn (small 27 (omega arith)) same h) stack)

  sys_word : (tin r : ℕ) → word2 15 ≡ tin → (r ≢ 15 → r ≢ 26 → word2 r ≡ word r) → word2 r ≡ words_with_register (words_with_register word 26 (word2 26)) 15 tin r
  sys_word tin r is same =
      elim (cases_eq r 15) [
        | inl d15 ↦ rw (eq-eqb r 15 d15) (ap word2 d15 ∙ is)
        | inr n15 ↦ elim (cases_eq r 26) [
          | inl a10 ↦ rw (ne_eqb r 15 n15, eq-eqb r 26 a10) (ap word2 a10)
          | inr n26 ↦ rw (ne_eqb r 15 n15, ne_eqb r 26 n26) (same n15 n26)
        ]
      ]

  -- at the entry of the handler of system calls
  pub holds_sys : (tin : ℕ) → length s.regs ≡ 27 → word2 27 < 2 ^ 32 → word2 15 ≡ tin → ((r : ℕ) → r < 32 → r ≢ 15 → r ≢ 26 → r ≢ 27 → word2 r ≡ word r) → Holds plan word2 false ccpn (sys_entry plan key s tin)
  unfolding register_slot
  holds_sys tin len small is same =
      let t1 = with_reg_value s 26 (handler_entry_sp_of plan key s) in
      let t2 = with_reg_value t1 15 (word_val tin) in
      let h1 : Holds plan (words_with_register word 26 (word2 26)) ie ccpn t1 = holds_set plan s word ie ccpn 26 (word2 26) (handler_entry_sp_of plan key s) len refl stack h in
      let h2 : Holds plan (words_with_register (words_with_register word 26 (word2 26)) 15 tin) ie ccpn t2 =
      holds_set plan t1 (words_with_register word 26 (word2 26)) ie ccpn 15 tin (word_val tin) (same_length s (handler_entry_sp_of plan key s) (register_slot 26) ∙ len) refl (inl refl) h1
      in
      holds_same plan t2 (sys_entry plan key s tin) (words_with_register (words_with_register word 26 (word2 26)) 15 tin) word2 ie false ccpn ccpn refl (λ t. t) h2.priority small
      (λ r lt n27. sys_word tin r is (λ n15 n26. same r lt n15 n26 n27)) h2

pub aln_length : (plan : PlanData) (key : Key) (s : State) → length (aln_entry plan key s).regs ≡ 27
aln_length plan key s =
    same_length (state_with_only_a10 (handler_entry_sp_of plan key s) false s.ccpn true) (word_val 4) (register_slot 15) ∙ entry_length (handler_entry_sp_of plan key s) false s.ccpn true

pub sys_length : (plan : PlanData) (key : Key) (s : State) (tin : ℕ) → length (sys_entry plan key s tin).regs ≡ length s.regs
sys_length plan key s tin = same_length (with_reg_value s 26 (handler_entry_sp_of plan key s)) (word_val tin) (register_slot 15) ∙ same_length s (handler_entry_sp_of plan key s) (register_slot 26)

-- ---- exits
-- the place of a lower register in an exit's values
abbrev pub lower_place : ℕ → ℕ
lower_place r = if ltb r 8 then r else r - 10

-- an exit holds the words of the lower registers, IE and CCPN
pub record HoldsExit (word : ℕ → ℕ) (ie : Bool) (ccpn : ℕ) (x : Exit) : Type 0 where
  pub lower : (r : ℕ) → is_lower_register r ≡ true → IsMember (word r) (get_or x.lower (lower_place r) any_val)
  pub enabled : IsTrue ie → IsTrue x.ie
  pub priority : x.ccpn ≤ ccpn

-- the lower registers are D0..D7 and A2..A7
lower_cases : (r : ℕ) → is_lower_register r ≡ true → (r < 8) ⊎ ((18 ≤ r) × (r ≤ 23))
lower_cases r low =
    elim (or_cases (ltb r 8) (leb 18 r && leb r 23) low) [
      | inl d ↦ inl (ltb-true r 8 d)
      | inr a ↦ let h = and_parts (leb 18 r) (leb r 23) a in inr (leb-true 18 r h.0, leb-true r 23 h.1)
    ]

slot-d : (r : ℕ) → r < 8 → register_slot r ≡ Some r
unfolding register_slot
slot-d r lt = rw (lt-ltb r 16 (omega arith)) refl

slot-a : (r : ℕ) → 18 ≤ r → r ≤ 23 → register_slot r ≡ Some (r - 2)
unfolding register_slot
slot-a r low high = rw (le-ltb r 16 (omega arith), le-leb 18 r low, le-leb r 23 high) refl

module _ (regs : List Val) (len : length regs ≡ 27) where
  d_length : length (take 8 regs) ≡ 8
  d_length = length-take-le 8 regs (omega arith)

  a_length : length (take 6 (drop 16 regs)) ≡ 6
  a_length = length-take-le 6 (drop 16 regs) (omega (arith, length-drop 16 regs))

  pub lower_length : length (lower_values regs) ≡ 14
  lower_length = omega (arith, length-append (take 8 regs) (take 6 (drop 16 regs)), d_length, a_length)

  lower-d : (r : ℕ) → r < 8 → get_or (lower_values regs) r any_val ≡ get_or regs r any_val
  lower-d r lt = get_or_append_left (take 8 regs) (take 6 (drop 16 regs)) any_val r (omega (arith, d_length)) ∙ get_or-take 8 regs r any_val lt

  lower-a : (r : ℕ) → 18 ≤ r → r ≤ 23 → get_or (lower_values regs) (r - 10) any_val ≡ get_or regs (r - 2) any_val
  lower-a r low high =
      let at : r - 10 - 8 ≡ r - 18 = omega arith in
      let from : 16 + (r - 18) ≡ r - 2 = omega arith in
      get_or-append_right (take 8 regs) (take 6 (drop 16 regs)) 8 (r - 10) any_val d_length (omega arith) ∙ ap (λ i. get_or (take 6 (drop 16 regs)) i any_val) at
      ∙ get_or-take 6 (drop 16 regs) (r - 18) any_val (omega arith) ∙ get_or-drop 16 regs (r - 18) any_val ∙ ap (λ i. get_or regs i any_val) from

-- the values of the lower registers in a state's exit are the state's
exit_value : (plan : PlanData) (s : State) (r : ℕ) → length s.regs ≡ 27 → is_lower_register r ≡ true → get_or (lower_values s.regs) (lower_place r) any_val ≡ reg_of plan s r
exit_value plan s r len low =
    elim (lower_cases r low) [
      | inl d ↦ rw (lt-ltb r 8 d) (lower-d s.regs len r d ∙ sym (ap (register_value_at plan s r) (slot-d r d)))
      | inr a ↦ rw (le-ltb r 8 (omega (arith, a.0))) (lower-a s.regs len r a.0 a.1 ∙ sym (ap (register_value_at plan s r) (slot-a r a.0 a.1)))
    ]

lower_small : (r : ℕ) → is_lower_register r ≡ true → (r < 32) × (lower_place r < 14)
lower_small r low =
    elim (lower_cases r low) [
      | inl d ↦ (omega arith, rw (lt-ltb r 8 d) (omega arith))
      | inr a ↦ (omega (arith, a.1), rw (le-ltb r 8 (omega (arith, a.0))) (omega (arith, a.0, a.1)))
    ]

-- an exit that covers a state's exit holds the words that the state holds
pub holds_exit : (plan : PlanData) (s : State) (word : ℕ → ℕ) (ie : Bool) (ccpn : ℕ) (y : Exit) → length s.regs ≡ 27 → ExitCovers y (exit_of_state s) → Holds plan word ie ccpn s → HoldsExit word ie ccpn y
holds_exit plan s word ie ccpn y len c h = record {
  lower = λ r low.
      let small = lower_small r low in
      c.lower (lower_place r) (omega (arith, lower_length s.regs len, small.1)) (word r) (subst (λ (v : Val). IsMember (word r) v) (sym (exit_value plan s r len low)) (h.regs r small.0));
  enabled = λ t. c.enabled (h.enabled t);
  priority = omega (arith, c.priority, h.priority);
}

-- ---- returns
get_or-with_lower : (k : ℕ) (lower vs : List Val) (i : ℕ) → i < length vs
    → get_or (values_after_return_from k lower vs) i any_val ≡ cond (is_lower_slot (k + i)) (get_or lower (cond (ltb (k + i) 8) (k + i) (k + i - 8)) any_val) (get_or vs i any_val)
unfolding values_after_return_from
get_or-with_lower k lower [] i h = absurd (omega arith)
get_or-with_lower k lower (v ∷ vs) zero h = let e : k ≡ k + zero = omega arith in ap (λ n. cond (is_lower_slot n) (get_or lower (cond (ltb n 8) n (n - 8)) any_val) v) e
get_or-with_lower k lower (v ∷ vs) (suc i) h =
    let e : k + 1 + i ≡ k + suc i = omega arith in
    get_or-with_lower (k + 1) lower vs i (omega arith) ∙ ap (λ n. cond (is_lower_slot n) (get_or lower (cond (ltb n 8) n (n - 8)) any_val) (get_or vs i any_val)) e

pub with_lower_length : (k : ℕ) (lower vs : List Val) → length (values_after_return_from k lower vs) ≡ length vs
unfolding values_after_return_from
with_lower_length k lower [] = refl
with_lower_length k lower (v ∷ vs) = ap suc (with_lower_length (k + 1) lower vs)

-- the place of a lower register's value in an exit follows from its place in a state
exit_place : (r i : ℕ) → is_lower_register r ≡ true → register_slot r ≡ Some i → cond (ltb i 8) i (i - 8) ≡ lower_place r
exit_place r i low e =
    elim (lower_cases r low) [
      | inl d ↦ let is : r ≡ i = (let f : Some r ≡ Some i = sym (slot-d r d) ∙ e in cc) in rw (← is, lt-ltb r 8 d) refl
      | inr a ↦
          let is : r - 2 ≡ i = (let f : Some (r - 2) ≡ Some i = sym (slot-a r a.0 a.1) ∙ e in cc) in
          rw (← is, le-ltb (r - 2) 8 (omega (arith, a.0)), le-ltb r 8 (omega (arith, a.0))) (omega arith)
    ]

module _ (plan : PlanData) (s : State) (x : Exit) (kind : ℕ) (word : ℕ → ℕ) (len : length s.regs ≡ 27) (upper : (r : ℕ) → r < 32 → is_lower_register r ≡ false → IsMember (word r) (reg_of plan s r)) where
  after_at : (r : ℕ) (o : Option ℕ) → o ≡ register_slot r → (is_lower_register r ≡ true → IsMember (word r) (get_or x.lower (lower_place r) any_val)) → (is_lower_register r ≡ false → IsMember (word r) (register_value_at plan s r o)) → (o ≡ None → is_lower_register r ≡ false)
      → IsMember (word r) (register_value_at plan (state_after_return s x kind) r o)
  after_at r None e lower high none = high (none refl)
  after_at r (Some i) e lower high none =
      let is = slot_is r i (sym e) in
      let zero_on : 0 + i ≡ i = omega arith in
      rw (get_or-with_lower 0 x.lower s.regs i (omega (arith, is.within)), zero_on, is.lower)
      (elim (cases_Bool (is_lower_register r)) [
        | inl t ↦ rw (t, exit_place r i t (sym e)) (lower t)
        | inr f ↦ rw f (high f)
      ])

  after_holds : (ie : Bool) (ccpn : ℕ) → ((r : ℕ) → is_lower_register r ≡ true → IsMember (word r) (get_or x.lower (lower_place r) any_val)) → (IsTrue ie → IsTrue (state_after_return s x kind).ie) → (state_after_return s x kind).ccpn ≤ ccpn
      → Holds plan word ie ccpn (state_after_return s x kind)
  after_holds ie ccpn lower enabled priority = record {
    regs = λ r lt. after_at r (register_slot r) refl (lower r) (upper r lt) (not_lower r);
    enabled = enabled;
    priority = priority;
  }

  -- after a call the lower registers, IE and CCPN are the exit's, the upper registers the caller's
  pub holds_after_call : (ie : Bool) (ccpn : ℕ) → kind ≡ 1 → HoldsExit word ie ccpn x → Holds plan word ie ccpn (state_after_return s x kind)
  holds_after_call ie ccpn call h = after_holds ie ccpn h.lower (rw (eq-eqb kind 1 call) h.enabled) (rw (eq-eqb kind 1 call) h.priority)

  -- after a system call IE and CCPN are the caller's, too
  pub holds_after_system : (ie ie2 : Bool) (ccpn ccpn2 : ℕ) → kind ≢ 1 → HoldsExit word ie2 ccpn2 x → (IsTrue ie → IsTrue s.ie) → s.ccpn ≤ ccpn → Holds plan word ie ccpn (state_after_return s x kind)
  holds_after_system ie ie2 ccpn ccpn2 other h enabled priority = after_holds ie ccpn h.lower (rw (ne_eqb kind 1 other) enabled) (rw (ne_eqb kind 1 other) priority)

pub after_length : (s : State) (x : Exit) (kind : ℕ) → length (state_after_return s x kind).regs ≡ length s.regs
after_length s x kind = with_lower_length 0 x.lower s.regs

-- ---- the number of values of a state
base_length : (b : Limits) (plan : PlanData) (s : State) (base : Arg) (offset : ℕ) (after : Bool) → length (state_with_increased_base b plan s base offset after).regs ≡ length s.regs
base_length b plan s (Word w) offset after = refl
base_length b plan s (Reg r) offset false = refl
base_length b plan s (Reg r) offset true = same_length s (operation_value b Add (reg_of plan s r) (word_val offset)) (register_slot r)

pub transfer_length : (b : Limits) (plan : PlanData) (shape : Shape) (s : State) (loaded : Val) → length (transfer_of b plan shape s loaded).regs ≡ length s.regs
unfolding transfer_of
transfer_length b plan (Compute op dst x y) s loaded = same_length s _ (register_slot dst)
transfer_length b plan (Scaled dst base index n) s loaded = same_length s _ (register_slot dst)
transfer_length b plan (Load dst base offset size signed after) s loaded = same_length (state_with_increased_base b plan s base offset after) loaded (register_slot dst) ∙ base_length b plan s base offset after
transfer_length b plan (Store src base offset size after) s loaded = base_length b plan s base offset after
transfer_length b plan Rslcx s loaded = length-forgotten 0 s.regs
transfer_length b plan (Mfcr dst number) s loaded = same_length s any_val (register_slot dst)
transfer_length b plan _ s loaded = refl

-- a state on a side of a branch has as many values as the one before
with_arg_length : (s : State) (y : Arg) (v : Val) → length (with_arg_value s y v).regs ≡ length s.regs
with_arg_length s (Reg r) v = same_length s v (register_slot r)
with_arg_length s (Word w) v = refl

with_one_length : (s : State) (x : ℕ) (z : Option Val) → IfSome (state_with_narrowed_register s x z) (λ t. length t.regs ≡ length s.regs)
with_one_length s x None = tt
with_one_length s x (Some z) = same_length s z (register_slot x)

with_two_length : (s : State) (x : ℕ) (y : Arg) (v w : Option Val) → IfSome (state_with_narrowed_operands s x y v w) (λ t. length t.regs ≡ length s.regs)
with_two_length s x y None w = tt
with_two_length s x y (Some v) None = tt
with_two_length s x y (Some v) (Some w) = with_arg_length (with_reg_value s x v) y w ∙ same_length s v (register_slot x)

lowered_length : (b : Limits) (plan : PlanData) (s : State) (x : ℕ) (lowers : Bool) (o : Option State) → IfSome o (λ t. length t.regs ≡ length s.regs) → IfSome (with_decremented_counter b plan x lowers o) (λ t. length t.regs ≡ length s.regs)
lowered_length b plan s x lowers None h = tt
lowered_length b plan s x false (Some t) h = h
lowered_length b plan s x true (Some t) h = same_length t (operation_value b Sub (reg_of plan t x) (word_val 1)) (register_slot x) ∙ h

refined_length : (b : Limits) (plan : PlanData) (s : State) (test : Cond) (x : ℕ) (y : Arg) (side : Bool) → IfSome (state_on_side b plan test x y s side) (λ t. length t.regs ≡ length s.regs)
refined_length b plan s test x y side =
    cond_both (is_same_register x y) _ _ (λ (o : Option State). IfSome o (λ t. length t.regs ≡ length s.regs)) (λ _. with_one_length s x _) (λ _. with_two_length s x y _ _)

pub refine_length : (b : Limits) (plan : PlanData) (shape : Shape) (s : State) (side : Bool) → IfSome (refine_of b plan shape s side) (λ t. length t.regs ≡ length s.regs)
unfolding refine_of
refine_length b plan (Branch test x y by lowers) s side = lowered_length b plan s x lowers (state_on_side b plan test x y s side) (refined_length b plan s test x y side)
refine_length b plan _ s side = tt
