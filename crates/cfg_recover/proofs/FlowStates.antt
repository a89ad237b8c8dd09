-- Lists of values that are written place by place.
use Rattle.std.proofs.Common.{◌≡◌, inl, inr, ℕ, zero, suc, ◌<◌, Bool, List, [], ◌∷◌, length, refl, arith, get_or, set, replicate}
use Rattle.std.proofs.lemmas.Bool.{cases_eq}
use Rattle.std.proofs.lemmas.List.{get_or-set_same, get_or-set_other, get_or-replicate, length-replicate}
use Rattle.std.proofs.Math.ListN.{length-set}
use Rattle.value_domain.specs.declared.values.Val.{Val}
use Rattle.value_domain.specs.Limits.{Limits, AreLimits}
use Rattle.value_domain.specs.Values.{IsInLattice, any_val}
use Rattle.value_domain.specs.State.{AreInLattice}
use Rattle.value_domain.proofs.RangeLaws.{any_value}
use Rattle.vd_transfer.specs.Registers.{register_slot}
use Rattle.cfg_recover.specs.Entries.{state_with_only_a10}

-- a list with the same value everywhere
pub replicate-all : (v : Val) (n : ℕ) (vs : List Val) → length vs ≡ n → ((i : ℕ) → i < n → get_or vs i v ≡ v) → vs ≡ replicate n v
replicate-all v zero [] e each = refl
replicate-all v zero (w ∷ vs) e each = absurd (omega arith)
replicate-all v (suc n) [] e each = absurd (omega arith)
replicate-all v (suc n) (w ∷ vs) e each =
    let first : w ≡ v = each 0 (omega arith) in
    let rest : vs ≡ replicate n v = replicate-all v n vs (omega arith) (λ i h. each (suc i) (omega arith)) in
    cc

-- ---- lists of values of the lattice
pub set_values : (b : Limits) (vs : List Val) (i : ℕ) (v : Val) → AreInLattice b vs → IsInLattice b v → AreInLattice b (set vs i v)
set_values b vs i v values value r h =
    let within : r < length vs = omega (arith, length-set {A = Val}) in
    elim (cases_eq r i) [
      | inl e ↦ let e2 : r ≡ i = e in let at : i < length vs = omega arith in rw (e2, get_or-set_same vs i v any_val at) value
      | inr n ↦ rw (get_or-set_other vs i r v any_val n) (values r within)
    ]

pub any_values : (b : Limits) → AreLimits b → AreInLattice b (replicate 27 any_val)
any_values b limits r h = let within : r < 27 = omega (arith, length-replicate 27 any_val) in rw (get_or-replicate 27 r any_val any_val within) (any_value b limits)

pub entry_values : (b : Limits) (sp : Val) (ie : Bool) (ccpn : ℕ) (lower : Bool) → AreLimits b → IsInLattice b sp → AreInLattice b (state_with_only_a10 sp ie ccpn lower).regs
unfolding register_slot
entry_values b sp ie ccpn lower limits value = set_values b (replicate 27 any_val) 22 sp (any_values b limits) value
