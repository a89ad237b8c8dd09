-- A point's duties are at the limits.
use Rattle.std.proofs.Common.{◌≡◌, ℕ, ◌-◌, ◌<◌, ◌≤◌, inl, inr, Bool, true, false, List, [], ◌∷◌, length, replicate, refl, sym, ap, ◌∙◌, subst, arith, Option, Some, None, length-append, length-take-le}
use Rattle.std.specs.Prelude.{IfSome}
use Rattle.std.proofs.lemmas.Bool.{cases_Bool, cond_both}
use Rattle.elf_image.specs.Images.{ImageData}
use Rattle.tcd_plan.specs.PlanData.{PlanData}
use Rattle.tc_isa.specs.declared.shapes.Arg.{Arg}
use Rattle.tc_isa.specs.declared.shapes.Arg.TheVariants.{Reg, Word}
use Rattle.tc_isa.specs.declared.shapes.Cond.{Cond}
use Rattle.tc_isa.specs.declared.shapes.Op.TheVariants.{Add, Sh}
use Rattle.tc_isa.specs.declared.shapes.Shape.{Shape}
use Rattle.tc_isa.specs.declared.shapes.Shape.TheVariants.{Compute, Scaled, Load, Store, Branch, Svlcx, Rslcx, Bisr, Mfcr}
use Rattle.tc_isa.specs.InBounds.{IsShapeInBounds}
use Rattle.value_domain.specs.declared.values.Val.{Val}
use Rattle.value_domain.specs.declared.states.State.{State}
use Rattle.value_domain.specs.Limits.{Limits}
use Rattle.value_domain.specs.Values.{IsInLattice, any_val, word_val}
use Rattle.value_domain.specs.State.{AreInLattice, is_lower_slot}
use Rattle.value_domain.proofs.RangeLaws.{any_value}
use Rattle.vd_transfer.specs.Operations.{operation_value}
use Rattle.vd_transfer.specs.EffectsOnStates.{address_of_access, transfer_of, state_with_increased_base, LocalsFitInstruction}
use Rattle.vd_transfer.specs.Branches.{state_with_narrowed_register, state_with_narrowed_operands, state_on_side, with_decremented_counter, refine_of}
use Rattle.vd_transfer.specs.Registers.{is_same_register, with_arg_value, reg_of, arg_of, with_reg_value, register_slot}
use Rattle.vd_transfer.specs.Soundness.{MeetSoundnessPremises}
use Rattle.vd_transfer.proofs.HoldLaws.{reg_value, arg_value, same_length, set_values_at}
use Rattle.vd_transfer.proofs.RegisterLaws.{length-forgotten, forgotten_values}
use Rattle.vd_transfer.proofs.ValueLaws.{value_of_value}
use Rattle.elf_image.proofs.ReadBytes.{byte_lt}
use Rattle.depth_cert.specs.declared.keys.Key.{Key}
use Rattle.cfg_recover.specs.Entries.{handler_entry_sp_of, state_with_only_a10, call_entry, aln_entry, sys_entry}
use Rattle.depth_cert.specs.Exits.{lower_values, exit_of_state}
use Rattle.cfg_recover.specs.Duties.{Owed, value_loaded_by_shape}
use Rattle.cfg_recover.proofs.CodeLaws.{IsCode-bounded}
use Rattle.cfg_recover.proofs.EntryLaws.{lower_length, entry_length, sys_length}
use Rattle.depth_cert.proofs.ExitValues.{after-at, with_lower_length}
use Rattle.cfg_recover.proofs.FlowStates.{entry_values}
use Rattle.depth_maker.specs.DutiesMonotone.{AreMakerInputs}
use Rattle.depth_maker.specs.WellFormedAssignments.{IsWellFormedDuty, DutiesAreWellFormed, ReturnStatesAreWellFormed}
use Rattle.depth_cert.specs.WellFormed.{IsWellFormedState, IsWellFormedExit}
use Rattle.depth_maker.proofs.StateGrowth.{covers_same, setting_write, set_locals}
use Rattle.depth_maker.proofs.EffectGrowth.{base_setting, address_value, branch_grows, word_value}
use Rattle.depth_maker.proofs.LoadedValues.{loaded_value}
use Rattle.depth_maker.proofs.OwnGrowth.{setting_of}
use Rattle.cfg_recover.proofs.DutyView.{DutyAt, next, straight, taken, target, called, called_back, system, system_back, misaligned, interrupt, duty_at}
use Rattle.depth_maker.proofs.DutyGrowth.{lower-at, lower_place}

-- ---- transfers
module _ (b : Limits) (p : PlanData) (s : State) (h : MeetSoundnessPremises b p s) where
  same_setting : (t : State) → t.regs ≡ s.regs → MeetSoundnessPremises b p t
  same_setting t e = record { limits = h.limits; plan = h.plan; regs = ap length e ∙ h.regs; values = subst (λ (vs : List Val). AreInLattice b vs) (sym e) h.values }

  pub transfer_setting : (shape : Shape) (v : Val) → IsShapeInBounds shape → IsInLattice b v → MeetSoundnessPremises b p (transfer_of b p shape s v)
  unfolding transfer_of
  transfer_setting (Compute op dst x y) v is vv = setting_write b p s dst _ h (value_of_value b op (arg_of p s x) (arg_of p s y) h.limits (arg_value b p s x h is.1) (arg_value b p s y h is.2))
  transfer_setting (Scaled dst base index k) v is vv = setting_write b p s dst _ h (value_of_value b Add (reg_of p s base) (operation_value b Sh (reg_of p s index) (word_val k)) h.limits (reg_value b p s base h) (value_of_value b Sh (reg_of p s index) (word_val k) h.limits (reg_value b p s index h) (word_value b k h.limits (omega (arith, is.3)))))
  transfer_setting (Load dst base offset size signed after) v is vv = setting_write b p (state_with_increased_base b p s base offset after) dst v (base_setting b p s base offset after h is.1 is.2) vv
  transfer_setting (Store src base offset size after) v is vv = base_setting b p s base offset after h is.1 is.2
  transfer_setting Rslcx v is vv = record { limits = h.limits; plan = h.plan; regs = length-forgotten 0 s.regs ∙ h.regs; values = forgotten_values b s.regs h.limits h.values }
  transfer_setting (Mfcr dst number) v is vv = setting_write b p s dst any_val h (any_value b h.limits)
  transfer_setting _ v is vv = same_setting _ refl

  base_locals : (base : Arg) (offset : ℕ) (after : Bool) → (state_with_increased_base b p s base offset after).locals.items ≡ s.locals.items
  base_locals (Word w) offset after = refl
  base_locals (Reg r) offset false = refl
  base_locals (Reg r) offset true = set_locals s r _

  pub transfer_locals : (shape : Shape) (v : Val) → LocalsFitInstruction b shape s → length s.locals.items ≤ b.most_locals → length (transfer_of b p shape s v).locals.items ≤ b.most_locals
  unfolding transfer_of
  transfer_locals (Compute op dst x y) v room few = omega (arith, ap length (set_locals s dst (operation_value b op (arg_of p s x) (arg_of p s y))), few)
  transfer_locals (Scaled dst base index k) v room few = omega (arith, ap length (set_locals s dst (operation_value b Add (reg_of p s base) (operation_value b Sh (reg_of p s index) (word_val k)))), few)
  transfer_locals (Load dst base offset size signed after) v room few = omega (arith, ap length (set_locals (state_with_increased_base b p s base offset after) dst v), ap length (base_locals base offset after), few)
  transfer_locals (Store src base offset size after) v room few = omega (arith, ap length (base_locals base offset after), few)
  transfer_locals Svlcx v room few = omega (arith, length-append s.locals.items (s.lower ∷ []), room)
  transfer_locals Rslcx v room few = omega (arith, length-take-le (length s.locals.items - 1) s.locals.items (omega arith), few)
  transfer_locals (Bisr mask) v room few = omega (arith, length-append s.locals.items (s.lower ∷ []), room)
  transfer_locals (Mfcr dst number) v room few = omega (arith, ap length (set_locals s dst any_val), few)
  transfer_locals _ v room few = few

-- ---- branches
-- the state has the locals of another
abbrev pub KeepsLocals : State → Option State → Type 0
KeepsLocals s o = IfSome o (λ u. u.locals.items ≡ s.locals.items)

arg_locals : (s : State) (y : Arg) (v : Val) → (with_arg_value s y v).locals.items ≡ s.locals.items
arg_locals s (Reg r) v = set_locals s r v
arg_locals s (Word w) v = refl

one_locals : (s : State) (x : ℕ) (z : Option Val) → KeepsLocals s (state_with_narrowed_register s x z)
one_locals s x None = tt
one_locals s x (Some z) = set_locals s x z

two_locals : (s : State) (x : ℕ) (y : Arg) (v w : Option Val) → KeepsLocals s (state_with_narrowed_operands s x y v w)
two_locals s x y None w = tt
two_locals s x y (Some v) None = tt
two_locals s x y (Some v) (Some w) = arg_locals (with_reg_value s x v) y w ∙ set_locals s x v

lowered_locals : (b : Limits) (p : PlanData) (s : State) (x : ℕ) (lowers : Bool) (o : Option State) → KeepsLocals s o → KeepsLocals s (with_decremented_counter b p x lowers o)
lowered_locals b p s x lowers None h = tt
lowered_locals b p s x false (Some t) h = h
lowered_locals b p s x true (Some t) h = set_locals t x _ ∙ h

refined_locals : (b : Limits) (p : PlanData) (s : State) (test : Cond) (x : ℕ) (y : Arg) (side : Bool) → KeepsLocals s (state_on_side b p test x y s side)
refined_locals b p s test x y side = cond_both (is_same_register x y) _ _ (KeepsLocals s) (λ _. one_locals s x _) (λ _. two_locals s x y _ _)

branch_locals : (b : Limits) (p : PlanData) (s : State) (test : Cond) (x : ℕ) (y : Arg) (by : ℕ) (lowers side : Bool) → KeepsLocals s (refine_of b p (Branch test x y by lowers) s side)
unfolding refine_of
branch_locals b p s test x y by lowers side = lowered_locals b p s x lowers (state_on_side b p test x y s side) (refined_locals b p s test x y side)

kept_locals : (s t : State) (o : Option State) → KeepsLocals s o → o ≡ Some t → t.locals.items ≡ s.locals.items
kept_locals s t None h e = absurd (let f : None ≡ Some t = e in cc)
kept_locals s t (Some u) h e = let f : u ≡ t = (let g : Some u ≡ Some t = e in cc) in subst (λ (k : State). k.locals.items ≡ s.locals.items) f h

-- ---- exits, and the states after them
lower_values_are : (b : Limits) (vs : List Val) → length vs ≡ 27 → AreInLattice b vs → AreInLattice b (lower_values vs)
lower_values_are b vs len values r lt =
    let within : r < 14 = omega (arith, lower_length vs len) in
    let at = lower-at vs r len within in
    subst (λ (v : Val). IsInLattice b v) (sym at.2) (values at.0 (omega (arith, at.1)))

pub exit_well_formed : (b : Limits) (s : State) → IsWellFormedState b s → IsWellFormedExit b (exit_of_state s)
exit_well_formed b s h = record { regs = lower_length s.regs h.regs; values = lower_values_are b s.regs h.regs h.values }

pub after_well_formed : ReturnStatesAreWellFormed
after_well_formed b s x kind ps px = record {
  regs = with_lower_length x.lower s.regs ∙ ps.regs;
  values = λ r lt.
      let within : r < length s.regs = omega (arith, with_lower_length x.lower s.regs) in
      rw (after-at x.lower s.regs r within)
      (elim (cases_Bool (is_lower_slot r)) [
        | inl t ↦ rw t (px.values _ (omega (arith, lower_place r t, px.regs)))
        | inr f ↦ rw f (ps.values r within)
      ]);
  few = ps.few;
}

module _ (b : Limits) (image : ImageData) (plan : PlanData) (key : Key) (p : ℕ) (s : State) (ground : AreMakerInputs b image plan) (well_formed : IsWellFormedState b s) where
  set : MeetSoundnessPremises b plan s
  set = setting_of b image plan s ground well_formed

  stack_value : IsInLattice b (handler_entry_sp_of plan key s)
  stack_value = elim (cases_Bool key.is) [ inl e ↦ rw e (reg_value b plan s 26 set) | inr e ↦ rw e (word_value b plan.isp (ground.limits) ((ground.is_plan).words.isp)) ]

  handler_well_formed : (n : ℕ) → IsWellFormedState b (state_with_only_a10 (handler_entry_sp_of plan key s) false n true)
  handler_well_formed n = record {
    regs = entry_length (handler_entry_sp_of plan key s) false n true;
    values = entry_values b (handler_entry_sp_of plan key s) false n true ground.limits stack_value;
    few = omega (arith, ap length (set_locals (record { regs = replicate 27 any_val; ie = false; ccpn = n; lower = true; locals = record { items = [] } }) 26 (handler_entry_sp_of plan key s)));
  }

  aln_well_formed : IsWellFormedState b (aln_entry plan key s)
  aln_well_formed =
      let h = handler_well_formed s.ccpn in
      let u = state_with_only_a10 (handler_entry_sp_of plan key s) false s.ccpn true in
      record {
        regs = same_length u (word_val 4) (register_slot 15) ∙ h.regs;
        values = set_values_at b u (word_val 4) (register_slot 15) h.values (word_value b 4 (ground.limits) (omega arith));
        few = omega (arith, ap length (set_locals u 15 (word_val 4)), h.few);
      }

  sys_well_formed : (tin : ℕ) → tin < 256 → IsWellFormedState b (sys_entry plan key s tin)
  sys_well_formed tin small =
      let u = with_reg_value s 26 (handler_entry_sp_of plan key s) in
      record {
        regs = sys_length plan key s tin ∙ well_formed.regs;
        values = set_values_at b u (word_val tin) (register_slot 15) (set_values_at b s (handler_entry_sp_of plan key s) (register_slot 26) well_formed.values stack_value) (word_value b tin (ground.limits) (omega arith));
        few = omega arith;
      }

  call_well_formed : IsWellFormedState b (call_entry s)
  call_well_formed = record { regs = well_formed.regs; values = well_formed.values; few = omega arith }

  loaded_is : (shape : Shape) → IsShapeInBounds shape → IsInLattice b (value_loaded_by_shape b image plan s shape)
  loaded_is (Load dst base offset size signed after) is = loaded_value image plan size signed ground.is_plan (λ x y. byte_lt image.segments x y ground.is_image.bytes) is.3 b (address_of_access b plan (Load dst base offset size signed after) s) ground.limits (address_value b plan (Load dst base offset size signed after) s set is)
  loaded_is _ is = any_value b (ground.limits)

  next_well_formed : (shape : Shape) → IsShapeInBounds shape → LocalsFitInstruction b shape s → IsWellFormedState b (transfer_of b plan shape s (value_loaded_by_shape b image plan s shape))
  next_well_formed shape is room =
      let h = transfer_setting b plan s set shape (value_loaded_by_shape b image plan s shape) is (loaded_is shape is) in
      record { regs = h.regs; values = h.values; few = transfer_locals b plan s set shape (value_loaded_by_shape b image plan s shape) room well_formed.few }

  branch_well_formed : (test : Cond) (x : ℕ) (y : Arg) (by : ℕ) (lowers side : Bool) → IsShapeInBounds (Branch test x y by lowers) → (t : State) → refine_of b plan (Branch test x y by lowers) s side ≡ Some t → IsWellFormedState b t
  branch_well_formed test x y by lowers side is t e =
      let h = (branch_grows b plan s s test x y by lowers side set set (covers_same s) is t e).0 in
      record { regs = h.regs; values = h.values; few = omega (arith, ap length (kept_locals s t _ (branch_locals b plan s test x y by lowers side) e), well_formed.few) }

  well_formed_by : (shape : Shape) (n : ℕ) (d : Owed) → IsShapeInBounds shape → LocalsFitInstruction b shape s → DutyAt b image plan key p s n shape d → IsWellFormedDuty b d.duty
  well_formed_by _ n _ is room (next shape e) = next_well_formed shape is room
  well_formed_by _ n _ is room (straight test x y by lowers t e) = branch_well_formed test x y by lowers false is t e
  well_formed_by _ n _ is room (taken test x y by lowers t e) = branch_well_formed test x y by lowers true is t e
  well_formed_by _ n _ is room (target to q c) = well_formed
  well_formed_by _ n _ is room (called to q c) = call_well_formed
  well_formed_by _ n _ is room (called_back to q c) = tt
  well_formed_by _ n _ is room (system tin) = sys_well_formed tin is
  well_formed_by _ n _ is room (system_back tin) = tt
  well_formed_by _ n _ is room (misaligned shape e) = aln_well_formed
  well_formed_by _ n _ is room (interrupt shape q c) = handler_well_formed q
  well_formed_by _ n _ is room _ = exit_well_formed b s well_formed

pub duties_well_formed : DutiesAreWellFormed
duties_well_formed b image plan key p s shape n d ground well_formed faultless code c =
    well_formed_by b image plan key p s ground well_formed shape n d (IsCode-bounded image plan p shape n code) (((faultless 8).own shape n code).room refl) (duty_at b image plan key p s n shape d c)
