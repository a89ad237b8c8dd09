-- What a machine at a point does next, against what the point owes.
use Rattle.std.proofs.Common.{◌≡◌, ℕ, ◌*◌, ◌/◌, ◌%◌, ◌^◌, ◌<◌, inl, inr, Bool, true, false, not, ◌&&◌, cond, List, [], length, refl, sym, ap, ◌∙◌, subst, arith, Option, Some, None, Ok, eqb, ltb, unwrap_or}
use Rattle.std.specs.Prelude.{IfSome, IsSome, IsSomeAnd, Contains}
use Rattle.std.specs.FinMap as memory_map
use Rattle.std.proofs.lemmas.Bool.{cases_Bool, and_parts, both_ways, not-true, ltb-true, lt-ltb, eq-eqb, false≢true, cond_both}
use Rattle.csa_chain.specs.MemoryBytes.{Memory, loaded_number, with_bytes, load_result}
use Rattle.elf_image.specs.Images.{ImageData}
use Rattle.tcd_plan.specs.PlanData.{PlanData, IsPlan}
use Rattle.tc_isa.specs.declared.shapes.Arg.{Arg}
use Rattle.tc_isa.specs.declared.shapes.Cond.{Cond}
use Rattle.tc_isa.specs.declared.shapes.Op.TheVariants.{Add}
use Rattle.tc_isa.specs.declared.shapes.Target.{Target}
use Rattle.tc_isa.specs.declared.shapes.Target.TheVariants as target
use Rattle.tc_isa.specs.declared.shapes.Shape.{Shape}
use Rattle.tc_isa.specs.declared.shapes.Shape.TheVariants.{Compute, Scaled, Load, Store, Branch, Jump, Enable, Disable, Mfcr, Nothing}
use Rattle.tc_isa.specs.Arithmetic.{taken_of}
use Rattle.tc_isa.specs.InBounds.{IsArgInBounds, IsTargetInBounds}
use Rattle.tc_machine.specs.declared.events.Event.{Event}
use Rattle.tc_machine.specs.declared.events.End.TheVariants.{Running}
use Rattle.tc_machine.specs.declared.state.Machine.{Machine}
use Rattle.tc_machine.specs.Machine.{reg, a11, IsMachine, core_register}
use Rattle.tc_machine.specs.Instructions.{wrapping_sum, after_instruction, access_address, is_trapping_access, target_address}
use Rattle.tc_machine.specs.Fetching.{fetched_instruction}
use Rattle.tc_machine.specs.Stepping.{is_interrupt_taken, load_of_fetched, store_of_fetched, none_if_dead, stored, step}
use Rattle.tcd_plan.specs.MappedAddresses.{IsInAreas, MayAnswerLoad, IsStoreInRange}
use Rattle.tc_machine.specs.Safe.{Fits}
use Rattle.tc_machine.proofs.Steps.{with_event, step_does, stored-is}
use Rattle.tc_machine.proofs.Stays.{stays_step, irq_lt}
use Rattle.tc_machine.proofs.Words.{load_lt}
use Rattle.value_domain.specs.declared.values.Val.{Val}
use Rattle.value_domain.specs.declared.values.Val.TheVariants.{Set, Span}
use Rattle.value_domain.specs.declared.states.State.{State}
use Rattle.value_domain.specs.Limits.{Limits}
use Rattle.value_domain.specs.Values.{IsMember, IsInLattice, IsWellFormed, members, word_val}
use Rattle.value_domain.proofs.CoverLaws.{among_member, has_step}
use Rattle.value_domain.proofs.RangeLaws.{one_value}
use Rattle.value_domain.proofs.SetLaws.{distinct_has}
use Rattle.vd_transfer.specs.Registers.{register_slot, reg_of, arg_of, with_reg_value}
use Rattle.vd_transfer.specs.EffectsOnStates.{address_by_mode, address_of_access, transfer_of}
use Rattle.vd_transfer.specs.EffectsOnWords.{ie_after, operand_word, words_after, ccpn_after}
use Rattle.vd_transfer.specs.Branches.{refine_of}
use Rattle.vd_transfer.specs.Holding.{Holds}
use Rattle.vd_transfer.specs.Soundness.{LoadedIsMember, MeetSoundnessPremises}
use Rattle.vd_transfer.proofs.HoldLaws.{same_length, reg_of-other, reg_of-here, transfer_holds, branch_holds, address_holds, arg_value}
use Rattle.vd_transfer.proofs.ValueLaws.{value_of_value}
use Rattle.store_ranges.specs.Loads.{HoldsLoadedWords, load_value_of}
use Rattle.store_ranges.proofs.Covers.{map_has}
use Rattle.store_ranges.proofs.Sound.{set_sound, span_sound}
use Rattle.depth_cert.specs.declared.keys.Key.{Key}
use Rattle.cfg_recover.specs.Entries.{handler_entry_sp_of, sys_entry, possible_irqs_of}
use Rattle.cfg_recover.specs.LocalRules.{targets_of_value, targets_of}
use Rattle.store_ranges.specs.Accesses.{are_aligned}
use Rattle.cfg_recover.specs.Duties.{owed, jump, value_loaded_by_shape, successor_duties_of, next_duty_of, duties_of}
use Rattle.cfg_recover.specs.MovesAreOwed.{IsInState, IsAtPoint, MovesTo, IsMoveOwed, JumpsAreOwed, TrapsAreOwed, InterruptsAreOwed, PointStoresAreInRange, CallsAreOwed, SystemCallsAreOwed}
use Rattle.cfg_recover.proofs.EntryLaws.{reg_lt}
use Rattle.cfg_recover.proofs.Points.{setting, bounded, writes, fetched_at}
use Rattle.cfg_recover.proofs.Members.{contains_first, contains_among, contains_filter, passes_each}
use Rattle.cfg_recover.proofs.Went.{reg_in, address-is, Went, does-compute, does-scaled, does-mfcr, does-enable, does-disable, does-nop, does-goto, does-load, does-store, does-branch}
use Rattle.cfg_recover.proofs.Keeps.{KeepsLower, GoesOn, IsKept, keeps_lower, keeps_valueless, keeps_locals, keeps_branch}
use Rattle.cfg_recover.proofs.Writes.{store_keeps_areas, store_keeps_rom, store_keeps_mapped}
use Rattle.cfg_recover.proofs.DutyView.{next, straight, taken as branch_taken, target as jump_target, called, called_back, system, system_back, misaligned, interrupt, duty_listed}
use Rattle.tc_mem.specs.PlanMemory.{HoldsRom, IsPlanMemory}

-- ---- one step
-- a memory in which rom, the save areas and what is mapped are as before
record IsSparing (image : ImageData) (plan : PlanData) (old new : Memory) : Type 0 where
  pub areas : (x : ℕ) → IsInAreas plan x → memory_map.get new x ≡ memory_map.get old x
  pub rom : HoldsRom image plan new
  pub memory : IsPlanMemory plan new

-- the state that holds these words holds the machine's
holds_went : (plan : PlanData) (d a : List ℕ) (word : ℕ → ℕ) (ie : Bool) (ccpn : ℕ) (t : State) → ((r : ℕ) → reg_in d a r ≡ word r) → Holds plan word ie ccpn t → Holds plan (reg_in d a) ie ccpn t
holds_went plan d a word ie ccpn t same h = record {
  regs = λ r lt. subst (λ w. IsMember w (reg_of plan t r)) (sym (same r)) (h.regs r lt);
  enabled = h.enabled;
  priority = h.priority;
}

no_a11 : register_slot 27 ≡ None
unfolding register_slot
no_a11 = refl

moves_to : (image : ImageData) (plan : PlanData) (m n : Machine) (s t : State) (word : ℕ → ℕ) (pc : ℕ) (ie : Bool) (mem : Memory) → m.end ≡ Running → Went m n word pc ie mem → Holds plan word ie m.ccpn t
    → KeepsLower (reg m) word s t → t.locals.items ≡ s.locals.items → word 27 ≡ reg m 27 → IsSparing image plan m.mem mem → MovesTo image plan m n s t
moves_to image plan m n s t word pc ie mem running w h lower locals a11 sparing =
    subst (λ (x : Machine). MovesTo image plan m x s t) (sym w.is)
    (record {
      inside = holds_went plan w.d w.a word ie m.ccpn t w.words h;
      lower = λ e. let k = lower e in (k.0, λ r low. w.words r ∙ k.1 r low);
      locals = locals;
      a11 = w.words 27 ∙ a11;
      psw = refl;
      pcxi = refl;
      fcx = refl;
      lcx = refl;
      biv = refl;
      btv = refl;
      isp = refl;
      core = refl;
      end = running;
      areas = sparing.areas;
      rom = sparing.rom;
      memory = sparing.memory;
    })

module _ {b : Limits} {image : ImageData} {plan : PlanData} {key : Key} {m : Machine} (e : Event) {s : State} {shape : Shape} {n : ℕ} (at : IsAtPoint b image plan key m s shape n) where
  same_memory : IsSparing image plan m.mem m.mem
  same_memory = record { areas = λ x inside. refl; rom = at.rom; memory = at.memory }

  -- the machine goes where the point owes a jump
  moved_to : (t : State) (word : ℕ → ℕ) (pc : ℕ) (ie : Bool) (mem : Memory) → Went m (after_instruction m e shape n) word pc ie mem → Holds plan word ie m.ccpn t → KeepsLower (reg m) word s t → t.locals.items ≡ s.locals.items
      → word 27 ≡ reg m 27 → IsSparing image plan m.mem mem → Contains (duties_of b image plan key m.pc s shape n) (owed 4 (jump pc t)) → IsMoveOwed b image plan key m e s shape n
  moved_to t word pc ie mem w h lower locals a11 sparing owes = record {
    state = t;
    owes = subst (λ q. Contains (duties_of b image plan key m.pc s shape n) (owed 4 (jump q t))) (sym (ap (λ (x : Machine). x.pc) w.is)) owes;
    moves = moves_to image plan m (after_instruction m e shape n) s t word pc ie mem at.running w h lower locals a11 sparing;
  }

  -- the machine goes to the next instruction
  moved_on : (input : ℕ) (mem : Memory) → GoesOn shape → input < 2 ^ 32 → LoadedIsMember shape input (value_loaded_by_shape b image plan s shape) → ccpn_after shape m.ccpn ≡ m.ccpn → IsSparing image plan m.mem mem
      → ((t : State) → successor_duties_of b image plan m.pc t shape n ≡ next_duty_of b image plan m.pc t shape n)
      → Went m (after_instruction m e shape n) (words_after shape input (reg m)) (wrapping_sum m.pc n) (ie_after shape m.ie) mem → IsMoveOwed b image plan key m e s shape n
  moved_on input mem goes small reads ccpn sparing next_only w =
      let read = value_loaded_by_shape b image plan s shape in
      let t = transfer_of b plan shape s read in
      let h : Holds plan (words_after shape input (reg m)) (ie_after shape m.ie) (ccpn_after shape m.ccpn) t =
      transfer_holds b plan shape s read (reg m) m.ie m.ccpn input (setting at) (bounded at) (writes at) goes.1 small reads at.inside
      in
      moved_to t (words_after shape input (reg m)) (wrapping_sum m.pc n) (ie_after shape m.ie) mem w (subst (λ c. Holds plan (words_after shape input (reg m)) (ie_after shape m.ie) c t) ccpn h)
      (keeps_lower b plan shape s read (reg m) input goes) (keeps_locals b plan shape s read goes) (keeps_valueless shape (reg m) input 27 (writes at) no_a11) sparing
      (duty_listed b image plan key m.pc s n shape _ (next shape next_only))

-- ---- accesses
-- the value of an address is within the limits
address_value : (b : Limits) (plan : PlanData) (s : State) (base : Arg) (offset : ℕ) (after : Bool) → MeetSoundnessPremises b plan s → IsArgInBounds base → offset < 2 ^ 32 → IsInLattice b (address_by_mode b plan s base offset after)
address_value b plan s base offset true set is small = arg_value b plan s base set is
address_value b plan s base offset false set is small = value_of_value b Add (arg_of plan s base) (word_val offset) set.limits (arg_value b plan s base set is) (one_value b offset set.limits small)

-- what is loaded is a member of the load's value
loads_hold : (b : Limits) (image : ImageData) (plan : PlanData) (at : Val) (size : ℕ) (signed : Bool) → IsPlan plan → IsWellFormed at → HoldsLoadedWords image plan at size signed (load_value_of b image plan at size signed)
loads_hold b image plan (Set ws) size signed ok well = set_sound b image plan ws size signed ok
loads_hold b image plan (Span lo last step) size signed ok well = span_sound b image plan (Span lo last step) size signed ok well

-- the load at pc is answered by its peripheral
answered : (plan : PlanData) (m : Machine) (e : Event) (shape : Shape) (n : ℕ) → Fits plan m e → is_interrupt_taken m e ≡ false → fetched_instruction m ≡ Ok (shape, n) → MayAnswerLoad plan e.input (load_of_fetched m (Ok (shape, n)))
answered plan m e shape n fits none at = subst (λ f. MayAnswerLoad plan e.input (load_of_fetched m f)) at (fits.answers none)

module _ {b : Limits} {image : ImageData} {plan : PlanData} {key : Key} {m : Machine} {s : State} {n : ℕ} (base : Arg) (offset size : ℕ) (after : Bool) where
  module _ (dst : ℕ) (signed : Bool) (at : IsAtPoint b image plan key m s (Load dst base offset size signed after) n) where
    load_value : IsInLattice b (address_of_access b plan (Load dst base offset size signed after) s)
    unfolding address_of_access
    load_value = let is = bounded at in address_value b plan s base offset after (setting at) is.1 is.2

    load_member : IsMember (access_address m base offset after) (address_of_access b plan (Load dst base offset size signed after) s)
    load_member =
        let is = bounded at in
        rw (address-is m base offset after) (address_holds.load b plan dst base offset size signed after s (reg m) m.ie m.ccpn (setting at) is.1 is.2 at.inside)

  module _ (src : ℕ) (at : IsAtPoint b image plan key m s (Store src base offset size after) n) where
    store_value : IsInLattice b (address_of_access b plan (Store src base offset size after) s)
    unfolding address_of_access
    store_value = let is = bounded at in address_value b plan s base offset after (setting at) is.1 is.2

    store_member : IsMember (access_address m base offset after) (address_of_access b plan (Store src base offset size after) s)
    store_member =
        let is = bounded at in
        rw (address-is m base offset after) (address_holds.store b plan src base offset size after s (reg m) m.ie m.ccpn (setting at) is.1 is.2 at.inside)

    -- the store is in range
    store_in_range : IsStoreInRange plan (access_address m base offset after, size)
    store_in_range = (at.own 9).stores refl (access_address m base offset after) store_member

-- ---- targets
named_has : (v : Val) (w : ℕ) → IsSome (targets_of_value v) → IsMember w v → Contains (unwrap_or (targets_of_value v) []) (w / 2 * 2)
named_has (Set ws) w some m = contains_among _ (w / 2 * 2) (distinct_has (w / 2 * 2) _ (map_has (λ w. w / 2 * 2) w ws m))
named_has (Span lo last step) w some m = absurd (let f : false ≡ true = some in cc)

-- a jump or a call goes to a known target
goes_to : (plan : PlanData) (m : Machine) (s : State) (to : Target) → IsSome (targets_of plan s m.pc to) → IsTargetInBounds to → IsInState plan m s → Contains (unwrap_or (targets_of plan s m.pc to) []) (target_address m to)
goes_to plan m s (target.Rel by) some is inside = contains_first (wrapping_sum m.pc by) []
goes_to plan m s (target.Abs x) some is inside = contains_first x []
goes_to plan m s (target.Reg r) some is inside = named_has (reg_of plan s r) (reg m r) some (inside.regs r is)

-- ---- moves
-- the side of a branch that the machine takes is possible
some_at : {A : Type 0} (o : Option A) (P Q : A → Type 0) → IsSomeAnd o P → IfSome o Q → (x : A) × (o ≡ Some x) × P x × Q x
some_at None P Q p q = absurd p
some_at (Some x) P Q p q = (x, refl, p, q)

-- that side is owed
owes_side : (b : Limits) (image : ImageData) (plan : PlanData) (key : Key) (p : ℕ) (s : State) (test : Cond) (x : ℕ) (y : Arg) (by : ℕ) (lowers : Bool) (n : ℕ) (side : Bool) (t : State) → refine_of b plan (Branch test x y by lowers) s side ≡ Some t
    → Contains (duties_of b image plan key p s (Branch test x y by lowers) n) (owed 4 (jump (cond side (wrapping_sum p by) (wrapping_sum p n)) t))
owes_side b image plan key p s test x y by lowers n false t e = duty_listed b image plan key p s n _ _ (straight test x y by lowers t e)
owes_side b image plan key p s test x y by lowers n true t e = duty_listed b image plan key p s n _ _ (branch_taken test x y by lowers t e)

moves_branch : (b : Limits) (image : ImageData) (plan : PlanData) (key : Key) (m : Machine) (e : Event) (s : State) (test : Cond) (x : ℕ) (y : Arg) (by : ℕ) (lowers : Bool) (n : ℕ) (side : Bool)
    → IsAtPoint b image plan key m s (Branch test x y by lowers) n → taken_of test (reg m x) (operand_word (reg m) y) ≡ side → IsMoveOwed b image plan key m e s (Branch test x y by lowers) n
moves_branch b image plan key m e s test x y by lowers n side at goes =
    let word = words_after (Branch test x y by lowers) 0 (reg m) in
    let is = bounded at in
    let t =
    some_at (refine_of b plan (Branch test x y by lowers) s side) (Holds plan word m.ie m.ccpn) (IsKept (reg m) word s)
    (branch_holds b plan test x y by lowers s side (reg m) m.ie m.ccpn (setting at) is (writes at) at.inside goes)
    (keeps_branch b plan test x y by lowers s side (reg m))
    in
    moved_to e at t.0 word (cond side (wrapping_sum m.pc by) (wrapping_sum m.pc n)) m.ie m.mem
    (subst (λ u. Went m (after_instruction m e (Branch test x y by lowers) n) word (cond u (wrapping_sum m.pc by) (wrapping_sum m.pc n)) m.ie m.mem) goes (does-branch m at.machine e n test x y by lowers is.0))
    t.2 (t.3).lower (t.3).locals (keeps_valueless (Branch test x y by lowers) (reg m) 0 27 (writes at) no_a11) (same_memory e at)
    (owes_side b image plan key m.pc s test x y by lowers n side t.0 t.1)

mfcr_word : (dst number w : ℕ) (word : ℕ → ℕ) → words_after (Mfcr dst number) w word dst ≡ w
unfolding words_after
mfcr_word dst number w word = rw (eq-eqb dst dst refl) refl

-- a core register has a word, since every step keeps words
core_small : (b : Limits) (image : ImageData) (plan : PlanData) (key : Key) (m : Machine) (e : Event) (s : State) (dst number n : ℕ) → IsAtPoint b image plan key m s (Mfcr dst number) n → Fits plan m e → is_interrupt_taken m e ≡ false
    → core_register m e number < 2 ^ 32
core_small b image plan key m e s dst number n at fits none =
    let w = does-mfcr m at.machine e n dst number (bounded at).0 in
    let after = after_instruction m e (Mfcr dst number) n in
    let stays : IsMachine (with_event after e) =
    subst IsMachine (step_does m e (Mfcr dst number) n at.running none (fetched_at at) (ap (λ (x : Machine). x.end) w.is ∙ at.running)) (stays_step m e at.machine (irq_lt at.is_plan m e fits) fits.input fits.status)
    in
    let is : reg after dst ≡ core_register m e number = ap (λ (x : Machine). reg x dst) w.is ∙ w.words dst ∙ mfcr_word dst number (core_register m e number) (reg m) in
    subst (λ x. x < 2 ^ 32) is (reg_lt (with_event after e) stays dst)

pub moves_in_frame : JumpsAreOwed
unfolding ie_after ccpn_after
moves_in_frame b image plan key m e s (Compute op dst x y) n at fits none stays quiet =
    moved_on e at 0 m.mem (tt, tt) (omega arith) tt refl (same_memory e at) (λ t. refl) (does-compute m at.machine e n op dst x y 0 (bounded at).0)
moves_in_frame b image plan key m e s (Scaled dst base index j) n at fits none stays quiet =
    moved_on e at 0 m.mem (tt, tt) (omega arith) tt refl (same_memory e at) (λ t. refl) (does-scaled m at.machine e n dst base index j 0 (bounded at).0)
moves_in_frame b image plan key m e s (Load dst base offset size signed after) n at fits none stays quiet =
    let is = bounded at in
    let x = access_address m base offset after in
    let address = address_of_access b plan (Load dst base offset size signed after) s in
    let small = load_lt m.mem at.machine.bytes signed e.input x size is.3 in
    let member =
    loads_hold b image plan address size signed at.is_plan (load_value base offset size after dst signed at).well m.mem x e.input at.machine.bytes at.memory at.rom fits.input
    (answered plan m e (Load dst base offset size signed after) n fits none (fetched_at at)) (load_member base offset size after dst signed at)
    in
    moved_on e at (load_result signed size (loaded_number m.mem e.input x size)) m.mem (tt, tt) small member refl (same_memory e at) (λ t. refl)
    (does-load m at.machine e n base offset size after is.1 quiet dst signed is.0)
moves_in_frame b image plan key m e s (Store src base offset size after) n at fits none stays quiet =
    let x = access_address m base offset after in
    let range = store_in_range base offset size after src at in
    let sparing : IsSparing image plan m.mem (with_bytes m.mem x (reg m src) size) =
    record {
      areas = store_keeps_areas plan at.is_plan image m.mem x (reg m src) size range;
      rom = store_keeps_rom plan at.is_plan image m.mem x (reg m src) size range at.rom;
      memory = store_keeps_mapped plan at.is_plan image m.mem x (reg m src) size range at.memory;
    } in
    moved_on e at 0 (with_bytes m.mem x (reg m src) size) (tt, tt) (omega arith) tt refl sparing (λ t. refl) (does-store m at.machine e n base offset size after (bounded at).1 quiet src 0)
moves_in_frame b image plan key m e s (Branch test x y by lowers) n at fits none stays quiet =
    moves_branch b image plan key m e s test x y by lowers n (taken_of test (reg m x) (operand_word (reg m) y)) at refl
moves_in_frame b image plan key m e s (Jump to) n at fits none stays quiet =
    moved_to e at s (reg m) (target_address m to) m.ie m.mem (does-goto m at.machine e n to) at.inside (λ t. (t, λ r low. refl)) refl refl (same_memory e at)
    (duty_listed b image plan key m.pc s n _ _ (jump_target to (target_address m to) (goes_to plan m s to ((at.own 5).targets refl) (bounded at) at.inside)))
moves_in_frame b image plan key m e s Enable n at fits none stays quiet = moved_on e at 0 m.mem (tt, tt) (omega arith) tt refl (same_memory e at) (λ t. refl) (does-enable m at.machine e n 0)
moves_in_frame b image plan key m e s Disable n at fits none stays quiet = moved_on e at 0 m.mem (tt, tt) (omega arith) tt refl (same_memory e at) (λ t. refl) (does-disable m at.machine e n 0)
moves_in_frame b image plan key m e s (Mfcr dst number) n at fits none stays quiet =
    moved_on e at (core_register m e number) m.mem (tt, tt) (core_small b image plan key m e s dst number n at fits none) tt refl (same_memory e at) (λ t. refl) (does-mfcr m at.machine e n dst number (bounded at).0)
moves_in_frame b image plan key m e s Nothing n at fits none stays quiet = moved_on e at 0 m.mem (tt, tt) (omega arith) tt refl (same_memory e at) (λ t. refl) (does-nop m at.machine e n 0)
moves_in_frame b image plan key m e s _ n at fits none stays quiet = absurd stays

-- ---- traps
-- if an access traps at a member, not all members are aligned
unaligned : (b : Limits) (v : Val) (x size : ℕ) (aln : Bool) → IsInLattice b v → IsMember x v → (aln && not (eqb (x % size) 0)) ≡ true → not (are_aligned v size) ≡ true
unaligned b v x size aln value m traps =
    elim (cases_Bool (are_aligned v size)) [
      | inl all ↦
          absurd
          (both_ways (eqb (x % size) 0) (not-true _ (and_parts aln (not (eqb (x % size) 0)) traps).1)
          (passes_each (λ x. eqb (x % size) 0) x (members v) all (among_member v x (has_step v value.well) m)))
      | inr some ↦ ap not some
    ]

pub traps_owed : TrapsAreOwed
traps_owed b image plan key m e s (Load dst base offset size signed after) n at t =
    duty_listed b image plan key m.pc s n _ _ (misaligned (Load dst base offset size signed after) (unaligned b (address_of_access b plan (Load dst base offset size signed after) s) (access_address m base offset after) size e.aln (load_value base offset size after dst signed at) (load_member base offset size after dst signed at) t))
traps_owed b image plan key m e s (Store src base offset size after) n at t =
    duty_listed b image plan key m.pc s n _ _ (misaligned (Store src base offset size after) (unaligned b (address_of_access b plan (Store src base offset size after) s) (access_address m base offset after) size e.aln (store_value base offset size after src at) (store_member base offset size after src at) t))
traps_owed b image plan key m e s shape n at t = absurd (false≢true t)

-- ---- calls
pub calls_owed : CallsAreOwed
calls_owed b image plan key m s to n at =
    let known = goes_to plan m s to ((at.own 5).targets refl) (bounded at) at.inside in
    record {
      entered = duty_listed b image plan key m.pc s n _ _ (called to (target_address m to) known);
      back = duty_listed b image plan key m.pc s n _ _ (called_back to (target_address m to) known);
    }

-- ---- system calls
pub system_calls_owed : SystemCallsAreOwed
unfolding register_slot
system_calls_owed b image plan key m s tin n at =
    let sp = handler_entry_sp_of plan key s in
    let t = with_reg_value s 26 sp in
    let u = sys_entry plan key s tin in
    let long : length t.regs ≡ 27 = same_length s sp (register_slot 26) ∙ at.regs in
    record {
      state = u;
      entered = duty_listed b image plan key m.pc s n _ _ (system tin);
      back = duty_listed b image plan key m.pc s n _ _ (system_back tin);
      number = reg_of-here plan t 15 (word_val tin) (register_slot 15) long refl refl;
      stack = reg_of-other plan t 15 26 (word_val tin) (register_slot 15) (register_slot 26) refl refl (λ e. omega arith) ∙ reg_of-here plan s 26 sp (register_slot 26) at.regs refl refl;
      others = λ r n15 n26. reg_of-other plan t 15 r (word_val tin) (register_slot 15) (register_slot r) refl refl n15 ∙ reg_of-other plan s 26 r sp (register_slot 26) (register_slot r) refl refl n26;
      enabled = refl;
      priority = refl;
      lower = refl;
      locals = refl;
    }

-- ---- interrupts
pub interrupts_owed : InterruptsAreOwed
interrupts_owed b image plan key m e s shape n at fits taken =
    let on = and_parts m.ie (ltb m.ccpn e.irq) taken in
    let above : m.ccpn < e.irq = ltb-true m.ccpn e.irq on.1 in
    let stated : Contains plan.irqs e.irq = elim fits.irq [ inl none ↦ absurd (omega arith) | inr c ↦ c ] in
    let enabled : s.ie ≡ true = at.inside.enabled on.0 in
    let reached : Contains (possible_irqs_of plan s) e.irq = rw enabled (contains_filter (ltb s.ccpn) e.irq plan.irqs stated (lt-ltb s.ccpn e.irq (omega (arith, at.inside.priority)))) in
    duty_listed b image plan key m.pc s n shape _ (interrupt shape e.irq reached)

-- ---- stores
-- a step that takes an interrupt stores nothing
taken_stores : (m : Machine) (e : Event) → m.end ≡ Running → is_interrupt_taken m e ≡ true → stored m e ≡ None
unfolding stored
taken_stores m e running taken =
    ap (λ end. none_if_dead end (cond (is_interrupt_taken m e) None (store_of_fetched m e (fetched_instruction m)))) running ∙ ap (λ t. cond t None (store_of_fetched m e (fetched_instruction m))) taken

store_held : (b : Limits) (image : ImageData) (plan : PlanData) (key : Key) (m : Machine) (e : Event) (s : State) (shape : Shape) (n : ℕ) → IsAtPoint b image plan key m s shape n → IfSome (store_of_fetched m e (Ok (shape, n))) (IsStoreInRange plan)
store_held b image plan key m e s (Store src base offset size after) n at =
    cond_both (is_trapping_access e (access_address m base offset after) size) None (Some (access_address m base offset after, size)) (λ (o : Option (ℕ × ℕ)). IfSome o (IsStoreInRange plan)) (λ _. tt) (λ _. store_in_range base offset size after src at)
store_held b image plan key m e s shape n at = tt

pub stores_held : PointStoresAreInRange
stores_held b image plan key m e s shape n at =
    elim (cases_Bool (is_interrupt_taken m e)) [
      | inl taken ↦ subst (λ (o : Option (ℕ × ℕ)). IfSome o (IsStoreInRange plan)) (sym (taken_stores m e at.running taken)) tt
      | inr none ↦
          subst (λ (o : Option (ℕ × ℕ)). IfSome o (IsStoreInRange plan)) (sym (stored-is m e (Ok (shape, n)) at.running none (fetched_at at))) (store_held b image plan key m e s shape n at)
    ]
