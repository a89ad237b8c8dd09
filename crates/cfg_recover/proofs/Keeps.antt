-- What instructions that stay in their frame keep: locals, registers without a value, and the lower
-- registers if the state says that they are the entry's.
use Rattle.std.proofs.Common.{◌≡◌, ◌≢◌, ℕ, ◌+◌, ◌-◌, ◌%◌, ◌^◌, Bool, true, false, not, ◌&&◌, cond, refl, sym, ap, ◌∙◌, Option, Some, None}
use Rattle.std.specs.Prelude.{IfSome, is_some}
use Rattle.std.proofs.lemmas.Bool.{and_parts, not-true, both_ways, cond_both}
use Rattle.tcd_plan.specs.PlanData.{PlanData}
use Rattle.tc_isa.specs.declared.shapes.Arg.{Arg}
use Rattle.tc_isa.specs.declared.shapes.Arg.TheVariants.{Reg, Word}
use Rattle.tc_isa.specs.declared.shapes.Cond.{Cond}
use Rattle.tc_isa.specs.declared.shapes.Op.TheVariants.{Add, Sub}
use Rattle.tc_isa.specs.declared.shapes.Shape.{Shape}
use Rattle.tc_isa.specs.declared.shapes.Shape.TheVariants.{Compute, Scaled, Load, Store, Branch, Svlcx, Rslcx, Bisr, Enable, Disable, Mfcr, Mtcr, Nothing}
use Rattle.value_domain.specs.declared.values.Val.{Val}
use Rattle.value_domain.specs.declared.states.State.{State}
use Rattle.value_domain.specs.Limits.{Limits}
use Rattle.value_domain.specs.Values.{any_val, word_val}
use Rattle.vd_transfer.specs.Operations.{operation_value}
use Rattle.vd_transfer.specs.Registers.{register_slot, reg_of, with_slot_value, with_reg_value, state_after_reg_write, is_lower_register, IsNotFixedRegister, with_arg_value, IncreasesNoFixedRegister, WritesNoFixedRegister, is_same_register}
use Rattle.vd_transfer.specs.EffectsOnStates.{state_with_increased_base, transfer_of}
use Rattle.vd_transfer.specs.Branches.{state_with_narrowed_register, state_with_narrowed_operands, state_on_side, with_decremented_counter, refine_of}
use Rattle.vd_transfer.specs.EffectsOnWords.{words_with_register, words_with_increased_base, words_after}
use Rattle.vd_transfer.specs.Soundness.{IsStraightLine}
use Rattle.cfg_recover.specs.MovesAreOwed.{KeepsFrameAndContexts}
use Rattle.cfg_recover.proofs.Went.{set_word-other}

-- If t says that the lower registers are the entry's, so does s, and their words are the same.
abbrev pub KeepsLower : (ℕ → ℕ) → (ℕ → ℕ) → State → State → Type 0
KeepsLower word word2 s t = t.lower ≡ true → (s.lower ≡ true) × ((r : ℕ) → is_lower_register r ≡ true → word2 r ≡ word r)

-- ---- one register
kept_set : (word : ℕ → ℕ) (l : Bool) (dst w : ℕ) → (l && not (is_lower_register dst)) ≡ true → (l ≡ true) × ((r : ℕ) → is_lower_register r ≡ true → words_with_register word dst w r ≡ word r)
kept_set word l dst w e =
    let h = and_parts l (not (is_lower_register dst)) e in
    (h.0, λ r low. set_word-other word dst w r (λ same. both_ways (is_lower_register dst) (not-true (is_lower_register dst) h.1) (ap is_lower_register (sym same) ∙ low)))

-- a write of a register keeps the lower registers, or drops the claim that they are the entry's
keeps_write : (word word2 : ℕ → ℕ) (s t : State) (dst w : ℕ) (v : Val) → KeepsLower word word2 s t → KeepsLower word (words_with_register word2 dst w) s (state_after_reg_write t dst v)
keeps_write word word2 s t dst w v keeps e =
    let h = kept_set word2 t.lower dst w e in
    let k = keeps h.0 in
    (k.0, λ r low. h.1 r low ∙ k.1 r low)

same_keeps : (word : ℕ → ℕ) (s : State) → KeepsLower word word s s
same_keeps word s e = (e, λ r low. refl)

-- a register without a value isn't one that has a value
without_value : (r q : ℕ) → IsNotFixedRegister r → register_slot q ≡ None → q ≢ r
without_value r q has none same = both_ways (is_some (register_slot r)) (ap (λ n. is_some (register_slot n)) (sym same) ∙ ap is_some none) has

valueless_set : (word : ℕ → ℕ) (dst w r : ℕ) → IsNotFixedRegister dst → register_slot r ≡ None → words_with_register word dst w r ≡ word r
valueless_set word dst w r has none = set_word-other word dst w r (without_value dst r has none)

-- ---- accesses
keeps_base : (b : Limits) (plan : PlanData) (s : State) (word : ℕ → ℕ) (base : Arg) (offset : ℕ) (after : Bool) → KeepsLower word (words_with_increased_base word base offset after) s (state_with_increased_base b plan s base offset after)
keeps_base b plan s word (Word w) offset after = same_keeps word s
keeps_base b plan s word (Reg r) offset false = same_keeps word s
keeps_base b plan s word (Reg r) offset true = keeps_write word word s s r ((word r + offset) % 2 ^ 32) (operation_value b Add (reg_of plan s r) (word_val offset)) (same_keeps word s)

valueless_base : (word : ℕ → ℕ) (base : Arg) (offset : ℕ) (after : Bool) (r : ℕ) → IncreasesNoFixedRegister base after → register_slot r ≡ None → words_with_increased_base word base offset after r ≡ word r
valueless_base word (Word w) offset after r has none = refl
valueless_base word (Reg x) offset false r has none = refl
valueless_base word (Reg x) offset true r has none = valueless_set word x ((word x + offset) % 2 ^ 32) r (has refl) none

written_locals : (s : State) (v : Val) (o : Option ℕ) → (with_slot_value s v o).locals.items ≡ s.locals.items
written_locals s v (Some i) = refl
written_locals s v None = refl

base_locals : (b : Limits) (plan : PlanData) (s : State) (base : Arg) (offset : ℕ) (after : Bool) → (state_with_increased_base b plan s base offset after).locals.items ≡ s.locals.items
base_locals b plan s (Word w) offset after = refl
base_locals b plan s (Reg r) offset false = refl
base_locals b plan s (Reg r) offset true = written_locals s (operation_value b Add (reg_of plan s r) (word_val offset)) (register_slot r)

-- ---- instructions
-- an instruction that goes on with the next one and doesn't touch the frame's contexts
abbrev pub GoesOn : Shape → Type 0
GoesOn shape = KeepsFrameAndContexts shape × IsStraightLine shape

pub keeps_lower : (b : Limits) (plan : PlanData) (shape : Shape) (s : State) (loaded : Val) (word : ℕ → ℕ) (input : ℕ) → GoesOn shape → KeepsLower word (words_after shape input word) s (transfer_of b plan shape s loaded)
unfolding transfer_of words_after
keeps_lower b plan (Compute op dst x y) s loaded word input goes = keeps_write word word s s dst _ any_val (same_keeps word s)
keeps_lower b plan (Scaled dst base index n) s loaded word input goes = keeps_write word word s s dst _ any_val (same_keeps word s)
keeps_lower b plan (Load dst base offset size signed after) s loaded word input goes =
    keeps_write word (words_with_increased_base word base offset after) s (state_with_increased_base b plan s base offset after) dst input loaded (keeps_base b plan s word base offset after)
keeps_lower b plan (Store src base offset size after) s loaded word input goes = keeps_base b plan s word base offset after
keeps_lower b plan Svlcx s loaded word input goes = absurd goes.0
keeps_lower b plan (Bisr c) s loaded word input goes = absurd goes.0
keeps_lower b plan Enable s loaded word input goes = same_keeps word s
keeps_lower b plan Disable s loaded word input goes = same_keeps word s
keeps_lower b plan (Mfcr dst number) s loaded word input goes = keeps_write word word s s dst input any_val (same_keeps word s)
keeps_lower b plan (Mtcr src number) s loaded word input goes = absurd goes.0
keeps_lower b plan Nothing s loaded word input goes = same_keeps word s
keeps_lower b plan _ s loaded word input goes = absurd goes.1

pub keeps_valueless : (shape : Shape) (word : ℕ → ℕ) (input r : ℕ) → WritesNoFixedRegister shape → register_slot r ≡ None → words_after shape input word r ≡ word r
unfolding words_after
keeps_valueless (Compute op dst x y) word input r writes none = valueless_set word dst _ r writes none
keeps_valueless (Scaled dst base index n) word input r writes none = valueless_set word dst _ r writes none
keeps_valueless (Load dst base offset size signed after) word input r writes none =
    valueless_set (words_with_increased_base word base offset after) dst input r writes.0 none ∙ valueless_base word base offset after r writes.1 none
keeps_valueless (Store src base offset size after) word input r writes none = valueless_base word base offset after r writes none
keeps_valueless (Branch test x y by true) word input r writes none = valueless_set word x _ r (writes refl) none
keeps_valueless (Mfcr dst number) word input r writes none = valueless_set word dst input r writes none
keeps_valueless _ word input r writes none = refl

pub keeps_locals : (b : Limits) (plan : PlanData) (shape : Shape) (s : State) (loaded : Val) → GoesOn shape → (transfer_of b plan shape s loaded).locals.items ≡ s.locals.items
unfolding transfer_of
keeps_locals b plan (Compute op dst x y) s loaded goes = written_locals s _ (register_slot dst)
keeps_locals b plan (Scaled dst base index n) s loaded goes = written_locals s _ (register_slot dst)
keeps_locals b plan (Load dst base offset size signed after) s loaded goes = written_locals (state_with_increased_base b plan s base offset after) loaded (register_slot dst) ∙ base_locals b plan s base offset after
keeps_locals b plan (Store src base offset size after) s loaded goes = base_locals b plan s base offset after
keeps_locals b plan Svlcx s loaded goes = absurd goes.0
keeps_locals b plan Rslcx s loaded goes = absurd goes.0
keeps_locals b plan (Bisr c) s loaded goes = absurd goes.0
keeps_locals b plan (Mfcr dst number) s loaded goes = written_locals s any_val (register_slot dst)
keeps_locals b plan _ s loaded goes = refl

-- ---- branches
-- two states differ only in values
record IsNarrowed (s t : State) : Type 0 where
  pub lower : t.lower ≡ s.lower
  pub locals : t.locals.items ≡ s.locals.items

set_lower : (s : State) (v : Val) (o : Option ℕ) → (with_slot_value s v o).lower ≡ s.lower
set_lower s v (Some i) = refl
set_lower s v None = refl

narrowed_set : (s t : State) (r : ℕ) (v : Val) → IsNarrowed s t → IsNarrowed s (with_reg_value t r v)
narrowed_set s t r v h = record { lower = set_lower t v (register_slot r) ∙ h.lower; locals = written_locals t v (register_slot r) ∙ h.locals }

narrowed_arg : (s t : State) (y : Arg) (v : Val) → IsNarrowed s t → IsNarrowed s (with_arg_value t y v)
narrowed_arg s t (Reg r) v h = narrowed_set s t r v h
narrowed_arg s t (Word w) v h = h

narrowed_one : (s : State) (x : ℕ) (z : Option Val) → IfSome (state_with_narrowed_register s x z) (IsNarrowed s)
narrowed_one s x None = tt
narrowed_one s x (Some z) = narrowed_set s s x z (record { lower = refl; locals = refl })

narrowed_two : (s : State) (x : ℕ) (y : Arg) (v w : Option Val) → IfSome (state_with_narrowed_operands s x y v w) (IsNarrowed s)
narrowed_two s x y None w = tt
narrowed_two s x y (Some v) None = tt
narrowed_two s x y (Some v) (Some w) = narrowed_arg s (with_reg_value s x v) y w (narrowed_set s s x v (record { lower = refl; locals = refl }))

narrowed : (b : Limits) (plan : PlanData) (test : Cond) (x : ℕ) (y : Arg) (s : State) (side : Bool) → IfSome (state_on_side b plan test x y s side) (IsNarrowed s)
narrowed b plan test x y s side = cond_both (is_same_register x y) _ _ (λ (o : Option State). IfSome o (IsNarrowed s)) (λ _. narrowed_one s x _) (λ _. narrowed_two s x y _ _)

-- what the states on the sides of a branch keep
pub record IsKept (word word2 : ℕ → ℕ) (s t : State) : Type 0 where
  pub lower : KeepsLower word word2 s t
  pub locals : t.locals.items ≡ s.locals.items

lowered_kept : (b : Limits) (plan : PlanData) (s : State) (x : ℕ) (lowers : Bool) (o : Option State) (word : ℕ → ℕ) → IfSome o (IsNarrowed s)
    → IfSome (with_decremented_counter b plan x lowers o) (IsKept word (cond lowers (words_with_register word x ((word x + (2 ^ 32 - 1)) % 2 ^ 32)) word) s)
lowered_kept b plan s x lowers None word h = tt
lowered_kept b plan s x false (Some t) word h = record { lower = λ e. (sym h.lower ∙ e, λ r low. refl); locals = h.locals }
lowered_kept b plan s x true (Some t) word h = record {
  lower = keeps_write word word s t x ((word x + (2 ^ 32 - 1)) % 2 ^ 32) (operation_value b Sub (reg_of plan t x) (word_val 1)) (λ e. (sym h.lower ∙ e, λ r low. refl));
  locals = written_locals t (operation_value b Sub (reg_of plan t x) (word_val 1)) (register_slot x) ∙ h.locals;
}

pub keeps_branch : (b : Limits) (plan : PlanData) (test : Cond) (x : ℕ) (y : Arg) (by : ℕ) (lowers : Bool) (s : State) (side : Bool) (word : ℕ → ℕ)
    → IfSome (refine_of b plan (Branch test x y by lowers) s side) (IsKept word (words_after (Branch test x y by lowers) 0 word) s)
unfolding refine_of words_after
keeps_branch b plan test x y by lowers s side word = lowered_kept b plan s x lowers (state_on_side b plan test x y s side) word (narrowed b plan test x y s side)
