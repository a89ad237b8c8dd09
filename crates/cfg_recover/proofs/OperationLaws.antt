-- A cached result is the result of the operation.
use Rattle.std.proofs.Common.{◌≡◌, ℕ, ◌<◌, not, ◌&&◌, Bool, true, false, eqb, inl, inr, length, get_or, Option, Some, None, leb, refl, sym, ap, ◌∙◌, subst, arith}
use Rattle.std.specs.Prelude.{IfSome}
use Rattle.std.specs.Option.{is_some, option_eq}
use Rattle.std.proofs.lemmas.Bool.{cases_lt, eqb-true, lt-ltb, le-ltb, le-leb, lt-leb}
use Rattle.std.proofs.lemmas.List.{get_or-set_same}
use Rattle.tcd_plan.specs.PlanData.{PlanData}
use Rattle.tc_isa.specs.declared.shapes.Op.{Op}
use Rattle.tc_isa.specs.declared.shapes.Arg.{Arg}
use Rattle.tc_isa.specs.declared.shapes.Arg.TheVariants.{Reg}
use Rattle.tc_isa.specs.declared.shapes.Shape.{Shape}
use Rattle.tc_isa.specs.declared.shapes.Shape.TheVariants.{Compute}
use Rattle.value_domain.specs.declared.values.Val.{Val}
use Rattle.value_domain.specs.declared.values.Val.TheVariants.{Set}
use Rattle.value_domain.specs.declared.states.State.{State}
use Rattle.value_domain.specs.Limits.{Limits}
use Rattle.value_domain.specs.Values.{any_val, IsInLattice}
use Rattle.value_domain.specs.State.{AreInLattice}
use Rattle.vd_transfer.specs.declared.change.Change.{Change}
use Rattle.vd_transfer.specs.Operations.{operation_value}
use Rattle.vd_transfer.specs.Registers.{register_slot, is_lower_register, register_value_at, arg_of, with_slot_value, state_after_reg_write}
use Rattle.vd_transfer.specs.EffectsOnStates.{transfer_of, LocalsFitInstruction, LoadedIsInLattice}
use Rattle.vd_transfer.specs.Changes.{state_after, register_write, identity_keeping_values}
use Rattle.vd_transfer.proofs.ChangeLaws.{written-is, written-values, value-second, length-changed}
use Rattle.cfg_recover.specs.declared.operation_cache.SetOperation.{SetOperation}
use Rattle.cfg_recover.specs.declared.operation_cache.CachedOperation.{CachedOperation}
use Rattle.cfg_recover.specs.SetOperations.{IsSetOperation, IsSameOperation, HasResultOf, IsCorrectEntry}

-- ---- data registers
data_slot : (r : ℕ) → r < 16 → register_slot r ≡ Some r
unfolding register_slot
data_slot r h = rw (lt-ltb r 16 h) refl

pub data_value : (plan : PlanData) (s : State) (r : ℕ) → r < 16 → arg_of plan s (Reg r) ≡ get_or s.regs r any_val
data_value plan s r h = ap (register_value_at plan s r) (data_slot r h)

data_lower : (r : ℕ) → r < 16 → not (is_lower_register r) ≡ leb 8 r
data_lower r h =
    elim (cases_lt r 8) [
      | inl low ↦ rw (lt-ltb r 8 low, lt-leb 8 r low) refl
      | inr high ↦ rw (le-ltb r 8 high, le-leb 8 r high, lt-leb 18 r (omega arith)) refl
    ]

-- ---- the result of an operation
computed : (b : Limits) (plan : PlanData) (s : State) (v : Val) (op : Op) (dst : ℕ) (x y : Arg)
    → transfer_of b plan (Compute op dst x y) s v ≡ state_after_reg_write s dst (operation_value b op (arg_of plan s x) (arg_of plan s y))
unfolding transfer_of
computed b plan s v op dst x y = refl

-- an operation loads nothing and saves no context
pub no_load : (b : Limits) (s : State) (o : SetOperation) (v : Val) → IsSetOperation s o → LoadedIsInLattice b o.shape v
no_load b s o v h = subst (λ (t : Shape). LoadedIsInLattice b t v) (sym h.is) tt

pub has_room : (b : Limits) (s : State) (o : SetOperation) → IsSetOperation s o → LocalsFitInstruction b o.shape s
has_room b s o h = subst (λ (t : Shape). LocalsFitInstruction b t s) (sym h.is) tt

-- the state after an operation on two sets, whatever is loaded
operation_state : (b : Limits) (plan : PlanData) (s : State) (v : Val) (o : SetOperation) → IsSetOperation s o
    → transfer_of b plan o.shape s v ≡ state_after_reg_write s o.dst (operation_value b o.op (Set o.x.now) (Set o.y.now))
operation_state b plan s v o h =
    ap (λ (t : Shape). transfer_of b plan t s v) h.is
    ∙ computed b plan s v o.op o.dst h.left h.right
    ∙ ap (λ (w : Val). state_after_reg_write s o.dst (operation_value b o.op w (arg_of plan s h.right))) (h.x.value plan)
    ∙ ap (λ (w : Val). state_after_reg_write s o.dst (operation_value b o.op (Set o.x.now) w)) (h.y.value plan)

pub any_loaded : (b : Limits) (plan : PlanData) (s : State) (v w : Val) (o : SetOperation) → IsSetOperation s o
    → transfer_of b plan o.shape s v ≡ transfer_of b plan o.shape s w
any_loaded b plan s v w o h = operation_state b plan s v o h ∙ sym (operation_state b plan s w o h)

-- ---- a hit
-- a change that writes a value to a data register
abbrev pub put_at : State → Change → ℕ → Val → Change
put_at s c r v = record (identity_keeping_values c s) { second = record { at = Some r; value = v }; lower = s.lower && leb 8 r }

put_is : (s : State) (c : Change) (r : ℕ) (v : Val) → r < 16 → state_after s (put_at s c r v) ≡ state_after_reg_write s r v
put_is s c r v h =
    ap (λ (o : Option ℕ). state_after s (record (identity_keeping_values c s) { second = record { at = o; value = v }; lower = s.lower && leb 8 r })) (sym (data_slot r h))
    ∙ ap (λ (t : Bool). state_after s (record (identity_keeping_values c s) { second = register_write r v; lower = s.lower && t })) (sym (data_lower r h))
    ∙ written-is s c r v

-- the entry's result is that of this operation, if the operations are the same
same_operation : (b : Limits) (k : CachedOperation) (o : SetOperation) → IsCorrectEntry b k → IsSameOperation k o → HasResultOf b k o.op
same_operation b k o holds h = subst (λ (op : Option Op). IfSome op (HasResultOf b k)) h.op holds

hit_value : (b : Limits) (k : CachedOperation) (o : SetOperation) → IsCorrectEntry b k → IsSameOperation k o → k.result ≡ operation_value b o.op (Set o.x.now) (Set o.y.now)
hit_value b k o holds h =
    (same_operation b k o holds h).gives
    ∙ ap (λ (w : Val). operation_value b o.op w k.y) h.x
    ∙ ap (λ (w : Val). operation_value b o.op (Set o.x.now) w) h.y

pub hit_state : (b : Limits) (plan : PlanData) (s : State) (v : Val) (o : SetOperation) (k : CachedOperation) (c : Change) → IsSetOperation s o → IsCorrectEntry b k → IsSameOperation k o
    → state_after s (put_at s c o.dst k.result) ≡ transfer_of b plan o.shape s v
hit_state b plan s v o k c h holds same =
    put_is s c o.dst k.result h.small
    ∙ ap (state_after_reg_write s o.dst) (hit_value b k o holds same)
    ∙ sym (operation_state b plan s v o h)

pub hit_values : (b : Limits) (s : State) (o : SetOperation) (k : CachedOperation) (c : Change) → o.dst < 16 → AreInLattice b s.regs → IsCorrectEntry b k → IsSameOperation k o
    → AreInLattice b (state_after s (put_at s c o.dst k.result)).regs
hit_values b s o k c h values holds same =
    subst (λ (t : State). AreInLattice b t.regs) (written-is s c o.dst k.result ∙ sym (put_is s c o.dst k.result h))
    (written-values b s c o.dst k.result values (same_operation b k o holds same).value)

-- ---- a miss
-- a data register has the value that was written last
written : (s : State) (r : ℕ) (v : Val) → r < 16 → length s.regs ≡ 27 → get_or (state_after_reg_write s r v).regs r any_val ≡ v
written s r v h len = ap (λ (o : Option ℕ). get_or (with_slot_value s v o).regs r any_val) (data_slot r h) ∙ get_or-set_same s.regs r v any_val (omega (arith, len))

apart : (o : Option ℕ) (r : ℕ) → o ≡ None → o ≡ Some r → ⊥
apart o r n e = cc

-- if the change puts its second value into the register and has no third one, the second value is
-- the operation's result
pub miss_value : (b : Limits) (plan : PlanData) (s : State) (v : Val) (o : SetOperation) (c : Change) → IsSetOperation s o → length s.regs ≡ 27
    → state_after s c ≡ transfer_of b plan o.shape s v → AreInLattice b (state_after s c).regs → c.second.at ≡ Some o.dst → c.third.at ≡ None
    → (c.second.value ≡ operation_value b o.op (Set o.x.now) (Set o.y.now)) × IsInLattice b c.second.value
miss_value b plan s v o c h len after values second third =
    let here : get_or (state_after s c).regs o.dst any_val ≡ c.second.value = value-second s c o.dst len (omega (arith, h.small)) (apart c.third.at o.dst third) second in
    let given = operation_value b o.op (Set o.x.now) (Set o.y.now) in
    let state : state_after s c ≡ state_after_reg_write s o.dst given = after ∙ operation_state b plan s v o h in (
      sym here ∙ ap (λ (t : State). get_or t.regs o.dst any_val) state ∙ written s o.dst given h.small len,
      subst (IsInLattice b) here (values o.dst (omega (arith, h.small, length-changed s c len))),
    )

-- ---- options
-- the answers of two tests of an option
pub same_word : (o : Option ℕ) (x : ℕ) (b : Bool) → b ≡ option_eq eqb o (Some x) → b ≡ true → o ≡ Some x
same_word None x b e t = absurd (let f : false ≡ true = sym e ∙ t in cc)
same_word (Some y) x b e t = ap (λ (n : ℕ). Some n) (eqb-true y x (sym e ∙ t))

pub is_nothing : (o : Option ℕ) (b : Bool) → is_some o ≡ not b → b ≡ true → o ≡ None
is_nothing None b e t = refl
is_nothing (Some x) b e t = absurd (let f : true ≡ false = e ∙ ap not t in cc)
