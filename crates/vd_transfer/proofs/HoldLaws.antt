-- If a state holds the words of registers, the changed state holds the words after the instruction.
use Rattle.std.proofs.Common.{◌≡◌, ℕ, ◌+◌, ◌-◌, ◌*◌, ◌%◌, ◌^◌, ◌<◌, ◌≤◌, inl, inr, Bool, true, false, cond, not, List, [], ◌∷◌, length, get_or, set, refl, sym, ap, ◌∙◌, subst, arith, Option, Some, None, eqb, IsTrue, IsSome, eq-eqb, if◌then◌else◌}
use Rattle.std.specs.Prelude.{IsSomeAnd}
use Rattle.std.specs.List.{list_any}
use Rattle.std.proofs.lemmas.Bool.{cases_Bool, eqb-true, eqb-false, lt-ltb, ne_eqb}
use Rattle.std.proofs.Math.ListN.{length-set}
use Rattle.std.proofs.lemmas.List.{get_or-set_same, get_or-set_other}
use Rattle.tcd_plan.specs.PlanData.{PlanData}
use Rattle.tc_isa.specs.declared.shapes.Arg.{Arg}
use Rattle.tc_isa.specs.declared.shapes.Arg.TheVariants.{Reg, Word}
use Rattle.tc_isa.specs.declared.shapes.Cond.{Cond}
use Rattle.tc_isa.specs.declared.shapes.Op.TheVariants.{Add, Sub, Sh}
use Rattle.tc_isa.specs.declared.shapes.Shape.TheVariants.{Compute, Scaled, Load, Store, Svlcx, Bisr, Enable, Disable, Mfcr, Mtcr, Nothing}
use Rattle.tc_isa.specs.Arithmetic.{alu_of, taken_of, logical_shift}
use Rattle.tc_isa.specs.InBounds.{IsArgInBounds}
use Rattle.value_domain.specs.declared.values.Val.{Val}
use Rattle.value_domain.specs.declared.states.State.{State}
use Rattle.value_domain.specs.Limits.{Limits, AreLimits}
use Rattle.value_domain.specs.Sets.{Among}
use Rattle.value_domain.specs.Values.{IsMember, IsInLattice, any_val, members, word_val}
use Rattle.value_domain.specs.State.{AreInLattice, is_lower_slot}
use Rattle.value_domain.proofs.CoverLaws.{among_member, has_step, cover_holds}
use Rattle.value_domain.proofs.RangeLaws.{one_value, cover_value, members_below}
use Rattle.vd_transfer.specs.Operations.{operation_value}
use Rattle.vd_transfer.specs.Refinement.{kept_left_words, kept_right_words, kept_self_compared_words, is_side_taken}
use Rattle.value_domain.specs.Meets.{cover_if_any}
use Rattle.vd_transfer.specs.Registers.{register_slot, reg_of, arg_of, register_value_at, fixed_register_value, with_slot_value, with_reg_value, state_after_reg_write, is_lower_register, IsNotFixedRegister, with_arg_value, IncreasesNoFixedRegister, is_same_register}
use Rattle.vd_transfer.specs.EffectsOnStates.{state_with_increased_base, address_by_mode, state_after_lower_save, state_after_lower_restore, transfer_of, address_of_access}
use Rattle.vd_transfer.specs.EffectsOnWords.{ie_after, words_with_register, operand_word, accessed_address, words_with_increased_base, words_after, ccpn_after}
use Rattle.vd_transfer.specs.Branches.{state_with_narrowed_register, state_with_narrowed_operands, state_on_side, with_decremented_counter, refine_of}
use Rattle.vd_transfer.specs.Holding.{Holds}
use Rattle.vd_transfer.specs.Soundness.{MeetSoundnessPremises, TransferIsSound, RestoreIsSound, BranchIsSound, AddressIsSound}
use Rattle.value_domain.proofs.MeetLaws.{filter_has, among_any, among_filter}
use Rattle.vd_transfer.proofs.OpLaws.{sound}
use Rattle.vd_transfer.proofs.RegisterLaws.{reg_is_value, get_or-forgotten}
use Rattle.vd_transfer.proofs.SlotLaws.{slot_is, slot_apart, not_lower}
use Rattle.vd_transfer.proofs.ValueLaws.{value_of_value}

-- ---- one register
-- what a set register leaves as it was
same_ie : (s : State) (v : Val) (o : Option ℕ) → (with_slot_value s v o).ie ≡ s.ie
same_ie s v (Some i) = refl
same_ie s v None = refl

same_ccpn : (s : State) (v : Val) (o : Option ℕ) → (with_slot_value s v o).ccpn ≡ s.ccpn
same_ccpn s v (Some i) = refl
same_ccpn s v None = refl

pub same_length : (s : State) (v : Val) (o : Option ℕ) → length (with_slot_value s v o).regs ≡ length s.regs
same_length s v (Some i) = length-set s.regs i v
same_length s v None = refl

-- the value of another register is as before
pub reg_of-other : (p : PlanData) (s : State) (r q : ℕ) (v : Val) (o o2 : Option ℕ) → o ≡ register_slot r → o2 ≡ register_slot q → (q ≡ r → ⊥) → register_value_at p (with_slot_value s v o) q o2 ≡ register_value_at p s q o2
reg_of-other p s r q v None o2 e f apart = refl
reg_of-other p s r q v (Some i) None e f apart = refl
reg_of-other p s r q v (Some i) (Some j) e f apart =
    get_or-set_other s.regs i j v any_val (λ same. apart (slot_apart q r i j (sym f) (sym e) (sym same)))

-- the register itself has the value that was set, if it has a place
pub reg_of-here : (p : PlanData) (s : State) (r : ℕ) (v : Val) (o : Option ℕ) → length s.regs ≡ 27 → o ≡ register_slot r → IsSome o → register_value_at p (with_slot_value s v o) r o ≡ v
reg_of-here p s r v (Some i) len e some = get_or-set_same s.regs i v any_val (omega (arith, (slot_is r i (sym e)).within))
reg_of-here p s r v None len e some = absurd (let f : false ≡ true = some in cc)

-- a state with register r set holds the words if r's new word is held and the others are as they
-- were
held_set : (p : PlanData) (s : State) (word word2 : ℕ → ℕ) (ie : Bool) (ccpn r : ℕ) (v : Val) → IsMember (word2 r) (register_value_at p (with_slot_value s v (register_slot r)) r (register_slot r))
    → ((q : ℕ) → (q ≡ r → ⊥) → word2 q ≡ word q) → Holds p word ie ccpn s → Holds p word2 ie ccpn (with_reg_value s r v)
held_set p s word word2 ie ccpn r v here others h = record {
  regs = λ q small.
      elim (cases_Bool (eqb q r)) [
        | inl same ↦ subst (λ n. IsMember (word2 n) (reg_of p (with_reg_value s r v) n)) (sym (eqb-true q r same)) here
        | inr other ↦
            let apart = eqb-false q r other in
            rw (others q apart) (subst (λ (u : Val). IsMember (word q) u) (sym (reg_of-other p s r q v (register_slot r) (register_slot q) refl refl apart)) (h.regs q small))
      ];
  enabled = λ t. same_ie s v (register_slot r) ∙ h.enabled t;
  priority = omega (arith, same_ccpn s v (register_slot r), h.priority);
}

set_word-here : (word : ℕ → ℕ) (r w : ℕ) → words_with_register word r w r ≡ w
set_word-here word r w = rw (eq-eqb r r refl) refl

set_word-other : (word : ℕ → ℕ) (r w q : ℕ) → (q ≡ r → ⊥) → words_with_register word r w q ≡ word q
set_word-other word r w q apart = rw (ne_eqb q r apart) refl

-- register r gets the word w and a value of which it is a member
pub holds_set : (p : PlanData) (s : State) (word : ℕ → ℕ) (ie : Bool) (ccpn r w : ℕ) (v : Val) → length s.regs ≡ 27 → IsNotFixedRegister r → IsMember w v → Holds p word ie ccpn s
    → Holds p (words_with_register word r w) ie ccpn (with_reg_value s r v)
holds_set p s word ie ccpn r w v len has m h =
    held_set p s word (words_with_register word r w) ie ccpn r v
    (rw (set_word-here word r w) (subst (λ (u : Val). IsMember w u) (sym (reg_of-here p s r v (register_slot r) len refl has)) m))
    (set_word-other word r w) h

narrow_here : (p : PlanData) (s : State) (w r : ℕ) (v : Val) (o : Option ℕ) → length s.regs ≡ 27 → o ≡ register_slot r → IsMember w v → IsMember w (register_value_at p s r o) → IsMember w (register_value_at p (with_slot_value s v o) r o)
narrow_here p s w r v None len e m old = old
narrow_here p s w r v (Some i) len e m old = subst (λ (u : Val). IsMember w u) (sym (reg_of-here p s r v (Some i) len e refl)) m

-- a register's value is narrowed to one of which its word is a member
pub holds_narrow : (p : PlanData) (s : State) (word : ℕ → ℕ) (ie : Bool) (ccpn r : ℕ) (v : Val) → length s.regs ≡ 27 → r < 32 → IsMember (word r) v → Holds p word ie ccpn s → Holds p word ie ccpn (with_reg_value s r v)
holds_narrow p s word ie ccpn r v len small m h = held_set p s word word ie ccpn r v (narrow_here p s (word r) r v (register_slot r) len refl m (h.regs r small)) (λ q apart. refl) h

-- ---- operands
const_member : (w : ℕ) → IsMember w (word_val w)
const_member w = inl refl

const_value : (b : Limits) (w : ℕ) → AreLimits b → w < 2 ^ 32 → IsInLattice b (word_val w)
const_value b w limits small = one_value b w limits small

pub arg_member : (p : PlanData) (s : State) (word : ℕ → ℕ) (ie : Bool) (ccpn : ℕ) (y : Arg) → IsArgInBounds y → Holds p word ie ccpn s → IsMember (operand_word word y) (arg_of p s y)
arg_member p s word ie ccpn (Reg r) small h = h.regs r small
arg_member p s word ie ccpn (Word w) small h = const_member w

pub reg_value : (b : Limits) (p : PlanData) (s : State) (r : ℕ) → MeetSoundnessPremises b p s → IsInLattice b (reg_of p s r)
reg_value b p s r set = reg_is_value b p s r set.limits set.plan.words.globals set.values

pub arg_value : (b : Limits) (p : PlanData) (s : State) (y : Arg) → MeetSoundnessPremises b p s → IsArgInBounds y → IsInLattice b (arg_of p s y)
arg_value b p s (Reg r) set small = reg_value b p s r set
arg_value b p s (Word w) set small = const_value b w set.limits small

-- a sum with a constant, modulo 2 ^ 32
sum_member : (b : Limits) (v : Val) (x offset : ℕ) → AreLimits b → IsInLattice b v → offset < 2 ^ 32 → IsMember x v → IsMember ((x + offset) % 2 ^ 32) (operation_value b Add v (word_val offset))
unfolding alu_of
sum_member b v x offset limits vv small m = sound b Add v (word_val offset) limits vv (const_value b offset limits small) x offset m (const_member offset)

-- ---- instructions
-- the values stay, whatever else of the state changes
moved : (p : PlanData) (s t : State) (word : ℕ → ℕ) (ie ie2 : Bool) (ccpn ccpn2 : ℕ) → t.regs ≡ s.regs → (IsTrue ie2 → IsTrue t.ie) → t.ccpn ≤ ccpn2 → Holds p word ie ccpn s → Holds p word ie2 ccpn2 t
moved p s t word ie ie2 ccpn ccpn2 same enabled priority h = record {
  regs = λ q small. same_at p s t word q (register_slot q) same (h.regs q small);
  enabled = enabled;
  priority = priority;
}
  where
    same_at : (p : PlanData) (s t : State) (word : ℕ → ℕ) (q : ℕ) (o : Option ℕ) → t.regs ≡ s.regs → IsMember (word q) (register_value_at p s q o) → IsMember (word q) (register_value_at p t q o)
    same_at p s t word q (Some i) same m = subst (λ (l : List Val). IsMember (word q) (get_or l i any_val)) (sym same) m
    same_at p s t word q None same m = m

-- writing a register only forgets that the lower registers are the entry's
written : (p : PlanData) (s : State) (word : ℕ → ℕ) (ie : Bool) (ccpn r : ℕ) (v : Val) → Holds p word ie ccpn (with_reg_value s r v) → Holds p word ie ccpn (state_after_reg_write s r v)
written p s word ie ccpn r v h = moved p (with_reg_value s r v) (state_after_reg_write s r v) word ie ie ccpn ccpn refl h.enabled h.priority h

holds_write : (p : PlanData) (s : State) (word : ℕ → ℕ) (ie : Bool) (ccpn r w : ℕ) (v : Val) → length s.regs ≡ 27 → IsNotFixedRegister r → IsMember w v → Holds p word ie ccpn s
    → Holds p (words_with_register word r w) ie ccpn (state_after_reg_write s r v)
holds_write p s word ie ccpn r w v len has m h = written p s (words_with_register word r w) ie ccpn r v (holds_set p s word ie ccpn r w v len has m h)

base_holds : (b : Limits) (p : PlanData) (s : State) (word : ℕ → ℕ) (ie : Bool) (ccpn : ℕ) (base : Arg) (offset : ℕ) (after : Bool) → MeetSoundnessPremises b p s → IsArgInBounds base → offset < 2 ^ 32 → IncreasesNoFixedRegister base after
    → Holds p word ie ccpn s → Holds p (words_with_increased_base word base offset after) ie ccpn (state_with_increased_base b p s base offset after)
base_holds b p s word ie ccpn (Word w) offset after set small off has h = h
base_holds b p s word ie ccpn (Reg r) offset false set small off has h = h
base_holds b p s word ie ccpn (Reg r) offset true set small off has h =
    holds_write p s word ie ccpn r ((word r + offset) % 2 ^ 32) (operation_value b Add (reg_of p s r) (word_val offset)) set.regs (has refl)
    (sum_member b (reg_of p s r) (word r) offset set.limits (reg_value b p s r set) off (h.regs r small)) h

write_length : (s : State) (r : ℕ) (v : Val) → length (state_after_reg_write s r v).regs ≡ length s.regs
write_length s r v = same_length s v (register_slot r)

base_length : (b : Limits) (p : PlanData) (s : State) (base : Arg) (offset : ℕ) (after : Bool) → length (state_with_increased_base b p s base offset after).regs ≡ length s.regs
base_length b p s (Word w) offset after = refl
base_length b p s (Reg r) offset false = refl
base_length b p s (Reg r) offset true = write_length s r (operation_value b Add (reg_of p s r) (word_val offset))

scaled_word : (a x n : ℕ) → n < 4 → (a + logical_shift x (n % 64)) % 2 ^ 32 ≡ (a + x * 2 ^ n) % 2 ^ 32
scaled_word a x n small =
    let same : n % 64 ≡ n = omega arith in
    rw (same, lt-ltb n 32 (omega arith)) (mod_twice a (x * 2 ^ n))
  where
    mod_twice : (a z : ℕ) → (a + z % 2 ^ 32) % 2 ^ 32 ≡ (a + z) % 2 ^ 32
    mod_twice a z = omega arith

scaled_member : (b : Limits) (p : PlanData) (s : State) (word : ℕ → ℕ) (ie : Bool) (ccpn base index n : ℕ) → MeetSoundnessPremises b p s → base < 32 → index < 32 → n < 4 → Holds p word ie ccpn s
    → IsMember ((word base + word index * 2 ^ n) % 2 ^ 32) (operation_value b Add (reg_of p s base) (operation_value b Sh (reg_of p s index) (word_val n)))
unfolding alu_of
scaled_member b p s word ie ccpn base index n set small_b small_i few h =
    let vb = reg_value b p s base set in
    let vi = reg_value b p s index set in
    let vn = const_value b n set.limits (omega arith) in
    let by : IsMember (logical_shift (word index) (n % 64)) (operation_value b Sh (reg_of p s index) (word_val n)) = sound b Sh (reg_of p s index) (word_val n) set.limits vi vn (word index) n (h.regs index small_i) (const_member n) in
    let sum : IsMember ((word base + logical_shift (word index) (n % 64)) % 2 ^ 32) (operation_value b Add (reg_of p s base) (operation_value b Sh (reg_of p s index) (word_val n))) =
    sound b Add (reg_of p s base) (operation_value b Sh (reg_of p s index) (word_val n)) set.limits vb (value_of_value b Sh (reg_of p s index) (word_val n) set.limits vi vn) (word base) (logical_shift (word index) (n % 64)) (h.regs base small_b) by in
    subst (λ (w : ℕ). IsMember w (operation_value b Add (reg_of p s base) (operation_value b Sh (reg_of p s index) (word_val n)))) (scaled_word (word base) (word index) n few) sum

any_member : (w : ℕ) → w < 2 ^ 32 → IsMember w any_val
any_member w h = (omega arith, omega arith, omega arith)

pub transfer_holds : TransferIsSound
unfolding transfer_of words_after ie_after ccpn_after
transfer_holds b p (Compute op dst x y) s loaded word ie ccpn input set is writes stays small reads h =
    holds_write p s word ie ccpn dst (alu_of op (operand_word word x) (operand_word word y)) (operation_value b op (arg_of p s x) (arg_of p s y)) set.regs writes
    (sound b op (arg_of p s x) (arg_of p s y) set.limits (arg_value b p s x set is.1) (arg_value b p s y set is.2) (operand_word word x) (operand_word word y) (arg_member p s word ie ccpn x is.1 h) (arg_member p s word ie ccpn y is.2 h)) h
transfer_holds b p (Scaled dst base index n) s loaded word ie ccpn input set is writes stays small reads h =
    holds_write p s word ie ccpn dst _ _ set.regs writes (scaled_member b p s word ie ccpn base index n set is.1 is.2 is.3 h) h
transfer_holds b p (Load dst base offset size signed after) s loaded word ie ccpn input set is writes stays small reads h =
    holds_write p (state_with_increased_base b p s base offset after) (words_with_increased_base word base offset after) ie ccpn dst input loaded (base_length b p s base offset after ∙ set.regs) writes.0 reads
    (base_holds b p s word ie ccpn base offset after set is.1 is.2 writes.1 h)
transfer_holds b p (Store src base offset size after) s loaded word ie ccpn input set is writes stays small reads h =
    base_holds b p s word ie ccpn base offset after set is.1 is.2 writes h
transfer_holds b p Svlcx s loaded word ie ccpn input set is writes stays small reads h = moved p s (state_after_lower_save s) word ie ie ccpn ccpn refl h.enabled h.priority h
transfer_holds b p (Bisr c) s loaded word ie ccpn input set is writes stays small reads h =
    moved p s (record (state_after_lower_save s) { ie = true; ccpn = c }) word ie true ccpn c refl (λ t. refl) (omega arith) h
transfer_holds b p Enable s loaded word ie ccpn input set is writes stays small reads h = moved p s (record s { ie = true }) word ie true ccpn ccpn refl (λ t. refl) h.priority h
transfer_holds b p Disable s loaded word ie ccpn input set is writes stays small reads h = moved p s (record s { ie = false }) word ie false ccpn ccpn refl (λ t. t) h.priority h
transfer_holds b p (Mfcr dst number) s loaded word ie ccpn input set is writes stays small reads h =
    holds_write p s word ie ccpn dst input any_val set.regs writes (any_member input small) h
transfer_holds b p (Mtcr src number) s loaded word ie ccpn input set is writes stays small reads h = absurd writes
transfer_holds b p Nothing s loaded word ie ccpn input set is writes stays small reads h = h
transfer_holds b p _ s loaded word ie ccpn input set is writes stays small reads h = absurd stays

-- ---- restoring
restored_at : (p : PlanData) (s : State) (word word2 : ℕ → ℕ) (q : ℕ) (o : Option ℕ) → length s.regs ≡ 27 → o ≡ register_slot q → word2 q < 2 ^ 32 → (is_lower_register q ≡ false → word2 q ≡ word q) → (o ≡ None → word2 q ≡ word q)
    → IsMember (word q) (register_value_at p s q o) → IsMember (word2 q) (register_value_at p (state_after_lower_restore s) q o)
restored_at p s word word2 q None len e small same none m = subst (λ (w : ℕ). IsMember w (fixed_register_value p q)) (sym (none refl)) m
restored_at p s word word2 q (Some i) len e small same none m =
    let is = slot_is q i (sym e) in
    rw (get_or-forgotten 0 s.regs i any_val (omega (arith, is.within)))
    (let at : is_lower_slot (0 + i) ≡ is_lower_register q = let z : 0 + i ≡ i = omega arith in ap is_lower_slot z ∙ is.lower in
    rw at (elim (cases_Bool (is_lower_register q)) [
      | inl low ↦ rw low (any_member (word2 q) small)
      | inr high ↦ rw (high, same high) m
    ]))

pub restore_holds : RestoreIsSound
restore_holds p s word word2 ie ccpn len small same h = record {
  regs = λ q lt. restored_at p s word word2 q (register_slot q) len refl (small q lt) (same q lt) (λ none. same q lt (not_lower q none)) (h.regs q lt);
  enabled = h.enabled;
  priority = h.priority;
}

pub address_holds : AddressIsSound
unfolding address_of_access
address_holds = record {
  load = λ b p dst base offset size signed after s word ie ccpn set is off h. access_member b p s word ie ccpn base offset after set is off h;
  store = λ b p src base offset size after s word ie ccpn set is off h. access_member b p s word ie ccpn base offset after set is off h;
}
  where
    access_member : (b : Limits) (p : PlanData) (s : State) (word : ℕ → ℕ) (ie : Bool) (ccpn : ℕ) (base : Arg) (offset : ℕ) (after : Bool) → MeetSoundnessPremises b p s → IsArgInBounds base → offset < 2 ^ 32 → Holds p word ie ccpn s
        → IsMember (accessed_address word base offset after) (address_by_mode b p s base offset after)
    access_member b p s word ie ccpn base offset true set is off h = arg_member p s word ie ccpn base is h
    access_member b p s word ie ccpn base offset false set is off h = sum_member b (arg_of p s base) (operand_word word base) offset set.limits (arg_value b p s base set is) off (arg_member p s word ie ccpn base is h)

-- ---- branches
-- a value with a member that is a word
pub record HasMember (b : Limits) (x : ℕ) (v : Val) : Type 0 where
  pub value : IsInLattice b v
  pub member : IsMember x v

-- what is kept of a set has its words as members
kept_has : (b : Limits) (xs : List ℕ) (x : ℕ) → AreLimits b → Among x xs → ((z : ℕ) → Among z xs → z < 2 ^ 32) → IsSomeAnd (cover_if_any b xs) (HasMember b x)
kept_has b [] x limits i below = absurd i
kept_has b (y ∷ ys) x limits i below = record { value = cover_value b (y ∷ ys) x limits i below; member = cover_holds b (y ∷ ys) x i }

-- the condition goes to the side that it takes
goes : (cond : Cond) (side : Bool) (x y : ℕ) → taken_of cond x y ≡ side → is_side_taken cond side x y ≡ true
goes cond true x y e = e
goes cond false x y e = ap not e

left_has : (b : Limits) (cond : Cond) (side : Bool) (v w : Val) (x y : ℕ) → AreLimits b → IsInLattice b v → IsInLattice b w → IsMember x v → IsMember y w → taken_of cond x y ≡ side
    → IsSomeAnd (cover_if_any b (kept_left_words cond side (members v) (members w))) (HasMember b x)
unfolding kept_left_words
left_has b cond side v w x y limits vv vw mx my e =
    kept_has b _ x limits
    (filter_has (λ x. list_any (λ y. is_side_taken cond side x y) (members w)) x (members v) (among_member v x (has_step v vv.well) mx)
    (among_any (λ y. is_side_taken cond side x y) y (members w) (among_member w y (has_step w vw.well) my) (goes cond side x y e)))
    (λ z i. members_below v vv.well z (among_filter _ z (members v) i).0)

right_has : (b : Limits) (cond : Cond) (side : Bool) (v w : Val) (x y : ℕ) → AreLimits b → IsInLattice b v → IsInLattice b w → IsMember x v → IsMember y w → taken_of cond x y ≡ side
    → IsSomeAnd (cover_if_any b (kept_right_words cond side (members v) (members w))) (HasMember b y)
unfolding kept_right_words
right_has b cond side v w x y limits vv vw mx my e =
    kept_has b _ y limits
    (filter_has (λ y. list_any (λ x. is_side_taken cond side x y) (members v)) y (members w) (among_member w y (has_step w vw.well) my)
    (among_any (λ x. is_side_taken cond side x y) x (members v) (among_member v x (has_step v vv.well) mx) (goes cond side x y e)))
    (λ z i. members_below w vw.well z (among_filter _ z (members w) i).0)

both_has : (b : Limits) (cond : Cond) (side : Bool) (v : Val) (x : ℕ) → AreLimits b → IsInLattice b v → IsMember x v → taken_of cond x x ≡ side → IsSomeAnd (cover_if_any b (kept_self_compared_words cond side (members v))) (HasMember b x)
unfolding kept_self_compared_words
both_has b cond side v x limits vv mx e =
    kept_has b _ x limits (filter_has (λ z. is_side_taken cond side z z) x (members v) (among_member v x (has_step v vv.well) mx) (goes cond side x x e)) (λ z i. members_below v vv.well z (among_filter _ z (members v) i).0)

pub set_values_at : (b : Limits) (s : State) (v : Val) (o : Option ℕ) → AreInLattice b s.regs → IsInLattice b v → AreInLattice b (with_slot_value s v o).regs
set_values_at b s v None values value r h = values r h
set_values_at b s v (Some i) values value r h =
    let len : length (set s.regs i v) ≡ length s.regs = length-set s.regs i v in
    let k : r < length s.regs = omega arith in
    elim (cases_Bool (eqb r i)) [
      | inl same ↦ let e : r ≡ i = eqb-true r i same in rw e (rw (get_or-set_same s.regs i v any_val (omega arith)) value)
      | inr other ↦ rw (get_or-set_other s.regs i r v any_val (eqb-false r i other)) (values r k)
    ]

-- a state that holds the words, with values
pub record HoldsWell (b : Limits) (p : PlanData) (word : ℕ → ℕ) (ie : Bool) (ccpn : ℕ) (s : State) : Type 0 where
  pub holds : Holds p word ie ccpn s
  pub setting : MeetSoundnessPremises b p s

narrowed_reg : (b : Limits) (p : PlanData) (s : State) (word : ℕ → ℕ) (ie : Bool) (ccpn r : ℕ) (v : Val) → r < 32 → HasMember b (word r) v → HoldsWell b p word ie ccpn s → HoldsWell b p word ie ccpn (with_reg_value s r v)
narrowed_reg b p s word ie ccpn r v small m h = record {
  holds = holds_narrow p s word ie ccpn r v h.setting.regs small m.member h.holds;
  setting = record { limits = h.setting.limits; plan = h.setting.plan; regs = same_length s v (register_slot r) ∙ h.setting.regs; values = set_values_at b s v (register_slot r) h.setting.values m.value };
}

narrowed_arg : (b : Limits) (p : PlanData) (s : State) (word : ℕ → ℕ) (ie : Bool) (ccpn : ℕ) (y : Arg) (v : Val) → IsArgInBounds y → HasMember b (operand_word word y) v → HoldsWell b p word ie ccpn s → HoldsWell b p word ie ccpn (with_arg_value s y v)
narrowed_arg b p s word ie ccpn (Reg r) v small m h = narrowed_reg b p s word ie ccpn r v small m h
narrowed_arg b p s word ie ccpn (Word w) v small m h = h

one_holds : (b : Limits) (p : PlanData) (s : State) (word : ℕ → ℕ) (ie : Bool) (ccpn x : ℕ) (z : Option Val) → x < 32 → IsSomeAnd z (HasMember b (word x)) → HoldsWell b p word ie ccpn s → IsSomeAnd (state_with_narrowed_register s x z) (HoldsWell b p word ie ccpn)
one_holds b p s word ie ccpn x None small m h = m
one_holds b p s word ie ccpn x (Some z) small m h = narrowed_reg b p s word ie ccpn x z small m h

two_holds : (b : Limits) (p : PlanData) (s : State) (word : ℕ → ℕ) (ie : Bool) (ccpn x : ℕ) (y : Arg) (v w : Option Val) → x < 32 → IsArgInBounds y → IsSomeAnd v (HasMember b (word x)) → IsSomeAnd w (HasMember b (operand_word word y))
    → HoldsWell b p word ie ccpn s → IsSomeAnd (state_with_narrowed_operands s x y v w) (HoldsWell b p word ie ccpn)
two_holds b p s word ie ccpn x y None w small is m n h = m
two_holds b p s word ie ccpn x y (Some v) None small is m n h = n
two_holds b p s word ie ccpn x y (Some v) (Some w) small is m n h = narrowed_arg b p (with_reg_value s x v) word ie ccpn y w is n (narrowed_reg b p s word ie ccpn x v small m h)

same_reg : (x : ℕ) (y : Arg) (word : ℕ → ℕ) → is_same_register x y ≡ true → operand_word word y ≡ word x
same_reg x (Reg r) word e = ap word (sym (eqb-true x r e))
same_reg x (Word w) word e = absurd (let f : false ≡ true = e in cc)

refined_holds : (b : Limits) (p : PlanData) (cond : Cond) (x : ℕ) (y : Arg) (s : State) (side : Bool) (word : ℕ → ℕ) (ie : Bool) (ccpn : ℕ) → x < 32 → IsArgInBounds y → HoldsWell b p word ie ccpn s
    → taken_of cond (word x) (operand_word word y) ≡ side → IsSomeAnd (state_on_side b p cond x y s side) (HoldsWell b p word ie ccpn)
refined_holds b p cond x y s side word ie ccpn small is h e =
    let set = h.setting in
    let vx = reg_value b p s x set in
    let mx = h.holds.regs x small in
    elim (cases_Bool (is_same_register x y)) [
      | inl one ↦
          let same : operand_word word y ≡ word x = same_reg x y word one in
          rw one (one_holds b p s word ie ccpn x _ small (both_has b cond side (reg_of p s x) (word x) set.limits vx mx (ap (taken_of cond (word x)) (sym same) ∙ e)) h)
      | inr two ↦
          let vy = arg_value b p s y set is in
          let my = arg_member p s word ie ccpn y is h.holds in
          rw two (two_holds b p s word ie ccpn x y _ _ small is
          (left_has b cond side (reg_of p s x) (arg_of p s y) (word x) (operand_word word y) set.limits vx vy mx my e)
          (right_has b cond side (reg_of p s x) (arg_of p s y) (word x) (operand_word word y) set.limits vx vy mx my e) h)
    ]

-- one less, modulo 2 ^ 32
less_member : (b : Limits) (v : Val) (x : ℕ) → AreLimits b → IsInLattice b v → IsMember x v → IsMember ((x + (2 ^ 32 - 1)) % 2 ^ 32) (operation_value b Sub v (word_val 1))
unfolding alu_of
less_member b v x limits vv m =
    let same : (x + 2 ^ 32 - 1) % 2 ^ 32 ≡ (x + (2 ^ 32 - 1)) % 2 ^ 32 = omega arith in
    subst (λ (w : ℕ). IsMember w (operation_value b Sub v (word_val 1))) same (sound b Sub v (word_val 1) limits vv (const_value b 1 limits (omega arith)) x 1 m (const_member 1))

lowered_holds : (b : Limits) (p : PlanData) (x : ℕ) (lowers : Bool) (t : Option State) (word : ℕ → ℕ) (ie : Bool) (ccpn : ℕ) → x < 32 → (IsTrue lowers → IsNotFixedRegister x) → IsSomeAnd t (HoldsWell b p word ie ccpn)
    → IsSomeAnd (with_decremented_counter b p x lowers t) (Holds p (if lowers then words_with_register word x ((word x + (2 ^ 32 - 1)) % 2 ^ 32) else word) ie ccpn)
lowered_holds b p x lowers None word ie ccpn small has h = h
lowered_holds b p x false (Some s) word ie ccpn small has h = h.holds
lowered_holds b p x true (Some s) word ie ccpn small has h =
    holds_write p s word ie ccpn x ((word x + (2 ^ 32 - 1)) % 2 ^ 32) (operation_value b Sub (reg_of p s x) (word_val 1)) h.setting.regs (has refl)
    (less_member b (reg_of p s x) (word x) h.setting.limits (reg_value b p s x h.setting) (h.holds.regs x small)) h.holds

pub branch_holds : BranchIsSound
unfolding refine_of words_after
branch_holds b p cond x y by lowers s side word ie ccpn set is writes h e =
    lowered_holds b p x lowers (state_on_side b p cond x y s side) word ie ccpn is.0 writes
    (refined_holds b p cond x y s side word ie ccpn is.0 is.1 (record { holds = h; setting = set }) e)
