-- The state after a change.
use Rattle.std.proofs.Common.{◌≡◌, ℕ, ◌+◌, ◌<◌, not, ◌&&◌, List, length, get_or, Bool, true, false, refl, sym, ap, ◌∙◌, arith, Option, Some, None, cond, subst}
use Rattle.std.specs.Prelude.{IsTrue, ◌↔◌}
use Rattle.std.proofs.lemmas.List.{get_or-set_same, get_or-set_other, length-replicate}
use Rattle.std.proofs.Math.ListN.{length-set}
use Rattle.tc_isa.specs.declared.shapes.Arg.{Arg}
use Rattle.tc_isa.specs.declared.shapes.Arg.TheVariants.{Reg, Word}
use Rattle.value_domain.specs.declared.values.Val.{Val}
use Rattle.value_domain.specs.declared.states.State.{State}
use Rattle.value_domain.specs.Limits.{Limits}
use Rattle.value_domain.specs.Values.{any_val, IsInLattice}
use Rattle.value_domain.specs.State.{AreInLattice, is_lower_slot}
use Rattle.vd_transfer.specs.declared.change.Base.{Base}
use Rattle.vd_transfer.specs.declared.change.Base.TheVariants.{Same, Forgotten, Any}
use Rattle.vd_transfer.specs.declared.change.RegisterWrite.{RegisterWrite}
use Rattle.vd_transfer.specs.declared.change.Change.{Change}
use Rattle.vd_transfer.specs.Registers.{register_slot, with_slot_value, with_reg_value, state_after_reg_write, is_lower_register, with_arg_value, arg_slot}
use Rattle.vd_transfer.specs.EffectsOnStates.{with_lower_unknown_from}
use Rattle.vd_transfer.specs.Changes.{base_values, with_value_in_slot, with_write, state_after, register_write, identity_keeping_values}
use Rattle.vd_transfer.proofs.HoldLaws.{set_values_at}
use Rattle.vd_transfer.proofs.RegisterLaws.{length-forgotten, get_or-forgotten}

-- a state with a value at a place
set_slot-is : (s : State) (v : Val) (o : Option ℕ) → with_slot_value s v o ≡ record s { regs = with_value_in_slot s.regs v o }
set_slot-is s v None = refl
set_slot-is s v (Some i) = refl

-- ---- writes
pub written-is : (s : State) (c : Change) (r : ℕ) (v : Val) → state_after s (record (identity_keeping_values c s) { second = register_write r v; lower = s.lower && not (is_lower_register r) }) ≡ state_after_reg_write s r v
written-is s c r v = ap (λ (t : State). record t { lower = s.lower && not (is_lower_register r) }) (sym (set_slot-is s v (register_slot r)))

pub written-values : (b : Limits) (s : State) (c : Change) (r : ℕ) (v : Val) → AreInLattice b s.regs → IsInLattice b v
    → AreInLattice b (state_after s (record (identity_keeping_values c s) { second = register_write r v; lower = s.lower && not (is_lower_register r) })).regs
written-values b s c r v values value = subst (λ (t : State). AreInLattice b t.regs) (sym (written-is s c r v)) (set_values_at b s v (register_slot r) values value)

-- before the third value is put
abbrev two_put : State → Change → List Val
two_put s c = with_write (with_write (base_values c.base s.regs) c.first) c.second

free-regs : (s : State) (c : Change) → c.third.at ≡ None → (state_after s c).regs ≡ two_put s c
free-regs s c free = ap (λ (o : Option ℕ). with_value_in_slot (two_put s c) c.third.value o) free

-- a third value that is put nowhere is of no account
pub third-free : (s : State) (c : Change) (v : Val) → c.third.at ≡ None → state_after s (record c { third = record c.third { value = v } }) ≡ state_after s c
third-free s c v free =
    ap (λ (o : Option ℕ). record (state_after s c) { regs = with_value_in_slot (two_put s c) v o }) free
    ∙ sym (ap (λ (o : Option ℕ). record (state_after s c) { regs = with_value_in_slot (two_put s c) c.third.value o }) free)

-- nor is a second one
pub second-free : (s : State) (c : Change) (v : Val) → c.second.at ≡ None → state_after s (record c { second = record c.second { value = v } }) ≡ state_after s c
second-free s c v free =
    ap (λ (o : Option ℕ). record (state_after s c) { regs = with_write (with_value_in_slot (with_write (base_values c.base s.regs) c.first) v o) c.third }) free
    ∙ sym (ap (λ (o : Option ℕ). record (state_after s c) { regs = with_write (with_value_in_slot (with_write (base_values c.base s.regs) c.first) c.second.value o) c.third }) free)

pub written_last-is : (s : State) (c : Change) (r : ℕ) → c.third.at ≡ None
    → state_after s (record c { third = record c.third { at = register_slot r }; lower = c.lower && not (is_lower_register r) }) ≡ state_after_reg_write (state_after s c) r c.third.value
written_last-is s c r free =
    sym
    (ap (λ (t : State). record t { lower = c.lower && not (is_lower_register r) }) (set_slot-is (state_after s c) c.third.value (register_slot r))
    ∙ ap (λ (vs : List Val). record (state_after s c) { regs = with_value_in_slot vs c.third.value (register_slot r); lower = c.lower && not (is_lower_register r) }) (free-regs s c free))

pub written_last-values : (b : Limits) (s : State) (c : Change) (r : ℕ) → AreInLattice b (state_after s c).regs → c.third.at ≡ None → IsInLattice b c.third.value
    → AreInLattice b (state_after s (record c { third = record c.third { at = register_slot r }; lower = c.lower && not (is_lower_register r) })).regs
written_last-values b s c r values free value =
    subst (λ (t : State). AreInLattice b t.regs) (sym (written_last-is s c r free)) (set_values_at b (state_after s c) c.third.value (register_slot r) values value)

-- ---- sides of branches
bare-regs : (s : State) (c : Change) → c.second.at ≡ None → c.third.at ≡ None → (state_after s c).regs ≡ with_write (base_values c.base s.regs) c.first
bare-regs s c none free = free-regs s c free ∙ ap (λ (o : Option ℕ). with_value_in_slot (with_write (base_values c.base s.regs) c.first) c.second.value o) none

pub one-is : (s : State) (c : Change) (x : ℕ) (v : Val) → state_after s (record (identity_keeping_values c s) { first = register_write x v }) ≡ with_reg_value s x v
one-is s c x v = sym (set_slot-is s v (register_slot x))

-- a second value, if no later one is put at its place
pub second-is : (s : State) (c : Change) (y : Arg) (w : Val) → c.second.at ≡ None → c.third.at ≡ None
    → state_after s (record c { second = record { at = arg_slot y; value = w } }) ≡ with_arg_value (state_after s c) y w
second-is s c (Word z) w none free =
    sym (ap (λ (o : Option ℕ). record (state_after s c) { regs = with_write (with_value_in_slot (with_write (base_values c.base s.regs) c.first) c.second.value o) c.third }) none)
second-is s c (Reg r) w none free =
    ap (λ (o : Option ℕ). record (state_after s c) { regs = with_value_in_slot (with_value_in_slot (with_write (base_values c.base s.regs) c.first) w (register_slot r)) c.third.value o }) free
    ∙ ap (λ (vs : List Val). record (state_after s c) { regs = with_value_in_slot vs w (register_slot r) }) (sym (bare-regs s c none free))
    ∙ sym (set_slot-is (state_after s c) w (register_slot r))

arg_values : (b : Limits) (s : State) (y : Arg) (v : Val) → AreInLattice b s.regs → IsInLattice b v → AreInLattice b (with_arg_value s y v).regs
arg_values b s (Reg r) v values value = set_values_at b s v (register_slot r) values value
arg_values b s (Word w) v values value = values

pub second_values : (b : Limits) (s : State) (c : Change) (y : Arg) (w : Val) → c.second.at ≡ None → c.third.at ≡ None → AreInLattice b (state_after s c).regs → IsInLattice b w
    → AreInLattice b (state_after s (record c { second = record { at = arg_slot y; value = w } })).regs
second_values b s c y w none free values value = subst (λ (t : State). AreInLattice b t.regs) (sym (second-is s c y w none free)) (arg_values b (state_after s c) y w values value)

pub one_values : (b : Limits) (s : State) (c : Change) (x : ℕ) (v : Val) → AreInLattice b s.regs → IsInLattice b v → AreInLattice b (state_after s (record (identity_keeping_values c s) { first = register_write x v })).regs
one_values b s c x v values value = subst (λ (t : State). AreInLattice b t.regs) (sym (one-is s c x v)) (set_values_at b s v (register_slot x) values value)

-- ---- places
-- a test that fails refutes what it decides
pub apart : (t : Bool) (P : Type 0) → t ≡ false → IsTrue t ↔ P → P → ⊥
apart t P e d p = let f = d.1 p in cc

pub forgotten-lower : (vs : List Val) (i : ℕ) → i < length vs → is_lower_slot i ≡ true → get_or (with_lower_unknown_from 0 vs) i any_val ≡ any_val
forgotten-lower vs i h e =
    let at : 0 + i ≡ i = omega arith in
    get_or-forgotten 0 vs i any_val h ∙ ap (λ n. cond (is_lower_slot n) any_val (get_or vs i any_val)) at ∙ ap (λ b. cond b any_val (get_or vs i any_val)) e

pub forgotten-other : (vs : List Val) (i : ℕ) → i < length vs → is_lower_slot i ≡ false → get_or (with_lower_unknown_from 0 vs) i any_val ≡ get_or vs i any_val
forgotten-other vs i h e =
    let at : 0 + i ≡ i = omega arith in
    get_or-forgotten 0 vs i any_val h ∙ ap (λ n. cond (is_lower_slot n) any_val (get_or vs i any_val)) at ∙ ap (λ b. cond b any_val (get_or vs i any_val)) e

length-value_put : (vs : List Val) (v : Val) (o : Option ℕ) → length (with_value_in_slot vs v o) ≡ length vs
length-value_put vs v None = refl
length-value_put vs v (Some i) = length-set vs i v

length-put : (vs : List Val) (p : RegisterWrite) → length (with_write vs p) ≡ length vs
length-put vs p = length-value_put vs p.value p.at

length-base : (base : Base) (vs : List Val) → length vs ≡ 27 → length (base_values base vs) ≡ 27
length-base Same vs e = e
length-base Forgotten vs e = length-forgotten 0 vs ∙ e
length-base Any vs e = length-replicate 27 any_val

pub length-changed : (s : State) (c : Change) → length s.regs ≡ 27 → length (state_after s c).regs ≡ 27
length-changed s c e =
    let base = base_values c.base s.regs in
    length-put (with_write (with_write base c.first) c.second) c.third ∙ length-put (with_write base c.first) c.second ∙ length-put base c.first ∙ length-base c.base s.regs e

put-here : (vs : List Val) (p : RegisterWrite) (i : ℕ) → i < length vs → p.at ≡ Some i → get_or (with_write vs p) i any_val ≡ p.value
put-here vs p i h e = ap (λ (o : Option ℕ). get_or (with_value_in_slot vs p.value o) i any_val) e ∙ get_or-set_same vs i p.value any_val h

put-there : (vs : List Val) (v : Val) (o : Option ℕ) (i : ℕ) → (o ≡ Some i → ⊥) → get_or (with_value_in_slot vs v o) i any_val ≡ get_or vs i any_val
put-there vs v None i n = refl
put-there vs v (Some k) i n = get_or-set_other vs k i v any_val (λ e. n (ap (λ (m : ℕ). Some m) (sym e)))

-- the value at a place is that put last there, else the base's
module _ (s : State) (c : Change) (i : ℕ) (len : length s.regs ≡ 27) (h : i < 27) where
  base : List Val
  base = base_values c.base s.regs

  pub value-third : c.third.at ≡ Some i → get_or (state_after s c).regs i any_val ≡ c.third.value
  value-third e =
      put-here (with_write (with_write (base_values c.base s.regs) c.first) c.second) c.third i
      (omega (arith, length-put (with_write (base_values c.base s.regs) c.first) c.second, length-put (base_values c.base s.regs) c.first, length-base c.base s.regs len)) e

  past-third : (c.third.at ≡ Some i → ⊥) → get_or (state_after s c).regs i any_val ≡ get_or (with_write (with_write (base_values c.base s.regs) c.first) c.second) i any_val
  past-third n = put-there (with_write (with_write (base_values c.base s.regs) c.first) c.second) c.third.value c.third.at i n

  pub value-second : (c.third.at ≡ Some i → ⊥) → c.second.at ≡ Some i → get_or (state_after s c).regs i any_val ≡ c.second.value
  value-second n e =
      past-third n
      ∙ put-here (with_write (base_values c.base s.regs) c.first) c.second i (omega (arith, length-put (base_values c.base s.regs) c.first, length-base c.base s.regs len)) e

  past-second : (c.third.at ≡ Some i → ⊥) → (c.second.at ≡ Some i → ⊥) → get_or (state_after s c).regs i any_val ≡ get_or (with_write (base_values c.base s.regs) c.first) i any_val
  past-second n m = past-third n ∙ put-there (with_write (base_values c.base s.regs) c.first) c.second.value c.second.at i m

  pub value-first : (c.third.at ≡ Some i → ⊥) → (c.second.at ≡ Some i → ⊥) → c.first.at ≡ Some i → get_or (state_after s c).regs i any_val ≡ c.first.value
  value-first n m e = past-second n m ∙ put-here (base_values c.base s.regs) c.first i (omega (arith, length-base c.base s.regs len)) e

  pub value-base : (c.third.at ≡ Some i → ⊥) → (c.second.at ≡ Some i → ⊥) → (c.first.at ≡ Some i → ⊥) → get_or (state_after s c).regs i any_val ≡ get_or (base_values c.base s.regs) i any_val
  value-base n m k = past-second n m ∙ put-there (base_values c.base s.regs) c.first.value c.first.at i k
