-- The registers of a state.
use Rattle.std.proofs.Common.{◌≡◌, ℕ, zero, suc, ◌+◌, ◌^◌, ◌<◌, inl, inr, true, cond, IsTrue, List, [], ◌∷◌, length, refl, ap, ◌∙◌, arith, get_or, Option, Some, None, ltb, eqb, subst}
use Rattle.std.specs.Prelude.{IfSome}
use Rattle.std.specs.List.{list_all}
use Rattle.std.proofs.lemmas.Bool.{cases_lt, cases_Bool, and_parts, ltb-true}
use Rattle.std.proofs.Math.ListN.{get_or-eq_default}
use Rattle.tcd_plan.specs.PlanData.{PlanData, global_of}
use Rattle.value_domain.specs.declared.values.Val.{Val}
use Rattle.value_domain.specs.declared.states.State.{State}
use Rattle.value_domain.specs.Limits.{Limits, AreLimits}
use Rattle.value_domain.specs.Values.{IsInLattice, any_val, word_val}
use Rattle.value_domain.specs.State.{AreInLattice, is_lower_slot}
use Rattle.value_domain.proofs.RangeLaws.{one_value, any_value}
use Rattle.vd_transfer.specs.EffectsOnStates.{with_lower_unknown_from}
use Rattle.vd_transfer.specs.Registers.{register_slot, reg_of, register_value_at, fixed_register_value}

-- the plan's words are words
abbrev pub AreGlobals : PlanData → Type 0
AreGlobals p = IsTrue (list_all (λ w. ltb w (2 ^ 32)) p.globals)

word_at : (ws : List ℕ) (i : ℕ) → list_all (λ w. ltb w (2 ^ 32)) ws ≡ true → get_or ws i 0 < 2 ^ 32
word_at [] i h = omega arith
word_at (w ∷ ws) zero h = ltb-true _ _ (and_parts (ltb w (2 ^ 32)) (list_all (λ w. ltb w (2 ^ 32)) ws) h).0
word_at (w ∷ ws) (suc i) h = word_at ws i (and_parts (ltb w (2 ^ 32)) (list_all (λ w. ltb w (2 ^ 32)) ws) h).1

pub global_small : (p : PlanData) (r : ℕ) → AreGlobals p → global_of p r < 2 ^ 32
global_small p r h = word_at p.globals _ h

pub fixed_is_value : (b : Limits) (p : PlanData) (r : ℕ) → AreLimits b → AreGlobals p → IsInLattice b (fixed_register_value p r)
fixed_is_value b p r limits globals =
    elim (cases_Bool (eqb r 27)) [
      | inl t ↦ rw t (any_value b limits)
      | inr f ↦ rw f (one_value b (global_of p r) limits (global_small p r globals))
    ]

pub at_is_value : (b : Limits) (vs : List Val) (i : ℕ) → AreLimits b → AreInLattice b vs → IsInLattice b (get_or vs i any_val)
at_is_value b vs i limits values =
    elim (cases_lt i (length vs)) [
      | inl h ↦ values i h
      | inr h ↦ rw (get_or-eq_default vs any_val h) (any_value b limits)
    ]

value_at_is_value : (b : Limits) (p : PlanData) (s : State) (r : ℕ) (o : Option ℕ) → AreLimits b → AreGlobals p → AreInLattice b s.regs → IsInLattice b (register_value_at p s r o)
value_at_is_value b p s r (Some i) limits globals values = at_is_value b s.regs i limits values
value_at_is_value b p s r None limits globals values = fixed_is_value b p r limits globals

pub reg_is_value : (b : Limits) (p : PlanData) (s : State) (r : ℕ) → AreLimits b → AreGlobals p → AreInLattice b s.regs → IsInLattice b (reg_of p s r)
reg_is_value b p s r limits globals values = value_at_is_value b p s r (register_slot r) limits globals values

-- the only word of a value
pub word_value : (b : Limits) (v : Val) (o : Option ℕ) → IsInLattice b v → IfSome o (λ w. v ≡ word_val w) → IfSome o (λ w. IsInLattice b (word_val w))
word_value b v None value h = h
word_value b v (Some w) value h = subst (λ (u : Val). IsInLattice b u) h value

-- ---- values that are forgotten
pub length-forgotten : (k : ℕ) (vs : List Val) → length (with_lower_unknown_from k vs) ≡ length vs
unfolding with_lower_unknown_from
length-forgotten k [] = refl
length-forgotten k (v ∷ vs) = ap suc (length-forgotten (k + 1) vs)

pub get_or-forgotten : (k : ℕ) (vs : List Val) (i : ℕ) (d : Val) → i < length vs → get_or (with_lower_unknown_from k vs) i d ≡ cond (is_lower_slot (k + i)) any_val (get_or vs i d)
unfolding with_lower_unknown_from
get_or-forgotten k [] i d h = absurd (omega arith)
get_or-forgotten k (v ∷ vs) zero d h = let e : k ≡ k + zero = omega arith in ap (λ n. cond (is_lower_slot n) any_val v) e
get_or-forgotten k (v ∷ vs) (suc i) d h = let e : k + 1 + i ≡ k + suc i = omega arith in get_or-forgotten (k + 1) vs i d (omega arith) ∙ ap (λ n. cond (is_lower_slot n) any_val (get_or vs i d)) e

pub forgotten_values : (b : Limits) (vs : List Val) → AreLimits b → AreInLattice b vs → AreInLattice b (with_lower_unknown_from 0 vs)
forgotten_values b vs limits values r h =
    let k : r < length vs = omega (arith, length-forgotten 0 vs) in
    rw (get_or-forgotten 0 vs r any_val k)
    (elim (cases_Bool (is_lower_slot (0 + r))) [ inl t ↦ rw t (any_value b limits) | inr f ↦ rw f (values r k) ])
